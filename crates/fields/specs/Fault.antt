-- The refusals and their numbers (rule 5.1). An answer that hands out a value has number 0.
use Rattle.std.specs.Prelude.{ℕ, Result, Ok, Err}
use Rattle.fields.specs.declared.fault.Fault.{Fault}
use Rattle.fields.specs.declared.fault.Fault.TheVariants.{Incomplete, Names, BodySize, Version, Crc, ExtendedHeader, Metadata, PoseLength, Image, Bind, BindDepth, MoreBytes, NoTile, LinkDown, ClockBehind, NewTile, TileTaken, PanelFull, NotFound, NoRoom, FeedStopped}

abbrev pub fault_number : Fault → ℕ
fault_number Incomplete = 1
fault_number Names = 2
fault_number BodySize = 3
fault_number Version = 4
fault_number Crc = 5
fault_number ExtendedHeader = 6
fault_number Metadata = 7
fault_number PoseLength = 8
fault_number Image = 9
fault_number Bind = 10
fault_number BindDepth = 11
fault_number MoreBytes = 12
fault_number NoTile = 13
fault_number LinkDown = 14
fault_number ClockBehind = 15
fault_number NewTile = 16
fault_number TileTaken = 17
fault_number PanelFull = 18
fault_number NotFound = 19
fault_number NoRoom = 20
fault_number FeedStopped = 21

-- the number of an answer
abbrev pub number_of : {A : Type 0} → Result A Fault → ℕ
number_of (Ok x) = 0
number_of (Err f) = fault_number f
