-- The book's corners within ±5 come to lie within ±14.
use Rattle.poses.proofs.Reaches.{posed-near}
use Rattle.poses.proofs.posed.Posed.new.Goals as goal

pub returns-clause-near : goal.returns-clause-near
returns-clause-near g c = posed-near c.args.pose _ (g.B.Meaning.near c.args.book.now c.args.part)
