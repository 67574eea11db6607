-- The numbers of reasons and layers, as slips print them.
use Rattle.std.specs.Prelude.{ℕ}
use Rattle.refusals.specs.declared.Reason.{Reason}
use Rattle.refusals.specs.declared.Reason.TheVariants.{DirectionTooLong, BadBytes, NoSuchPart, SwelledTooFar, NoSuchStation, StationTaken, StationEmpty, PoseOutOfRange, TooNear, GripperFull, GripperEmpty, NoRoom, CornerTooFar, PartsMiscounted}
use Rattle.refusals.specs.declared.Layer.{Layer}
use Rattle.refusals.specs.declared.Layer.TheVariants.{Call, ChainedBook, BoxBook, Swell, Cell, Store}

abbrev pub reason_number : Reason → ℕ
-- a number of a direction is beyond ±2,000,000,000
reason_number DirectionTooLong = 1
-- the check of stored bytes fails
reason_number BadBytes = 2
-- the book has no such part
reason_number NoSuchPart = 3
-- a swelled coordinate is beyond ±5
reason_number SwelledTooFar = 4
-- a station is not 1 to 64
reason_number NoSuchStation = 5
-- the station is taken
reason_number StationTaken = 6
-- the station is empty
reason_number StationEmpty = 7
-- a pose is out of range
reason_number PoseOutOfRange = 8
-- a part would stand too near
reason_number TooNear = 9
-- the gripper holds a part
reason_number GripperFull = 10
-- the gripper is empty
reason_number GripperEmpty = 11
-- P or a record is above 8,191, or the buffer is too short
reason_number NoRoom = 12
-- a corner is beyond ±5
reason_number CornerTooFar = 13
-- all parts are begun already, or too few at the close
reason_number PartsMiscounted = 14

abbrev pub layer_number : Layer → ℕ
-- the call itself
layer_number Call = 0
-- the chained book
layer_number ChainedBook = 1
-- the box book
layer_number BoxBook = 2
-- the swell layer
layer_number Swell = 3
-- the cell
layer_number Cell = 4
-- draft and store
layer_number Store = 5
