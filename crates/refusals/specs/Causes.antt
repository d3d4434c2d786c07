-- The number and the layer of each cause, and the number of each layer. Assumes nothing.
use Rattle.std.specs.Prelude.{ℕ}
use Rattle.refusals.specs.declared.Cause.{Cause}
use Rattle.refusals.specs.declared.Cause.TheVariants.{BusOutOfRange, ParticipantOutOfRange, ClassNotTaken, TotalOverLimit, SourceIsSink, LedgerFull, RecordNotOpen, Unbalanced, AreaNotWhole, OtherBusCount, ConstraintOutOfRange, RowLength, OutsideLimits, WeightOutOfRange, MalformedLine, FrameOutOfPlace}
use Rattle.refusals.specs.declared.layer.Layer.{Layer}
use Rattle.refusals.specs.declared.layer.Layer.TheVariants.{Reader, Hour, Network}

abbrev pub number : Cause → ℕ
number BusOutOfRange = 1
number ParticipantOutOfRange = 2
number ClassNotTaken = 3
number TotalOverLimit = 4
number SourceIsSink = 5
number LedgerFull = 6
number RecordNotOpen = 7
number Unbalanced = 8
number AreaNotWhole = 9
number OtherBusCount = 10
number ConstraintOutOfRange = 11
number RowLength = 12
number OutsideLimits = 13
number WeightOutOfRange = 14
number MalformedLine = 15
number FrameOutOfPlace = 16

abbrev pub layer : Cause → Layer
layer BusOutOfRange = Hour
layer ParticipantOutOfRange = Hour
layer ClassNotTaken = Hour
layer TotalOverLimit = Hour
layer SourceIsSink = Hour
layer LedgerFull = Hour
layer RecordNotOpen = Hour
layer Unbalanced = Hour
layer AreaNotWhole = Hour
layer OtherBusCount = Network
layer ConstraintOutOfRange = Hour
layer RowLength = Hour
layer OutsideLimits = Network
layer WeightOutOfRange = Hour
layer MalformedLine = Reader
layer FrameOutOfPlace = Reader

abbrev pub layer_number : Layer → ℕ
layer_number Reader = 1
layer_number Hour = 2
layer_number Network = 3
