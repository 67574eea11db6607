use Rattle.std.proofs.Common.{rules, ◌/◌, ◌%◌, Ok, Err, sym, ap, ◌∙◌, arith}
use Rattle.std.specs.Option.{option_map, option_copied}
use Rattle.std.specs.List.{slice_get}
use Rattle.std.specs.Result.{result_ok}
use Rattle.std.proofs.lemmas.Result.{err_from_is_err_and}
use Rattle.refusals.specs.declared.Layer.TheVariants.{BoxBook}
use Rattle.refusals.specs.Slips.{part_missing}
use Rattle.integers.specs.Points.{Pt}
use Rattle.exact.specs.Space.{at}
use Rattle.exact.specs.Spots.{spot}
use Rattle.parts.specs.Boxes.{octants, vertex}
use Rattle.parts.proofs.Options.{mapped, refused_or}
use Rattle.boxes.specs.declared.entry.Entry.{Entry}
use Rattle.boxes.specs.EntryLaws.{counted}
use Rattle.boxes.proofs.Listings.{unlisted, counting, corner_at}
use Rattle.boxes.proofs.book.BoxBookPartBook.corner.Goals as goal

pub returns-in_err-ok_or : goal.returns-in_err-ok_or
returns-in_err-ok_or c =
    let (s, is, from) = err_from_is_err_and c.from_residual.result c.from_residual.ensures.1 in
    let (none, slip) = refused_or c.first_and_nth.result.0 c.part_missing-missing.result c.in_err-ok_or.field-0.0 (sym c.ok_or.ensures.value ∙ c.in_err-ok_or.was) in
    rw (is, from) (ap Err (slip ∙ c.part_missing-missing.ensures ∙ ap (part_missing BoxBook) {y = c.args.part} (omega arith)) ∙ sym (unlisted c.args.part c.args.k c.args.self.now.entries.now (sym c.first_and_nth.ensures.first ∙ ap option_copied none)))

pub map-requires : goal.map-requires
map-requires c = λ x e _ _ _ _ _ _.
    let t = counted c.args.part x.now (counting c.args.part _ c.args.self.now.entries.now x.now (sym c.first_and_nth.ensures.nth ∙ ap option_copied e)) in
    (t.low, t.high)

pub returns : goal.returns
returns c =
    let corner : Entry → Pt = λ e. vertex (at e.low) (at e.high) c.numbered-octant.result in
    ap Ok (mapped (λ x. x.now) (spot {n = 5}) corner _ (λ x y q. search rules) c.first_and_nth.result.1 c.map.result c.map.ensures.cases ∙ ap (option_map corner) (c.first_and_nth.ensures.nth ∙ ap (slice_get _) {y = c.args.k / 8} (omega arith)))
    ∙ sym (corner_at c.args.part c.args.k c.args.self.now.entries.now c.in_ok-ok_or.field-0.now c.numbered-octant.result
    (sym c.first_and_nth.ensures.first ∙ ap option_copied (c.ok_or.ensures.ok_part ∙ ap result_ok c.in_ok-ok_or.was)) (ap (slice_get octants) {x = c.args.k % 8} (omega arith) ∙ c.numbered-octant.ensures))
