-- The number of each refusal.
use Rattle.std.specs.Prelude.{ℕ}
use Rattle.refusals.specs.declared.refusal.Refusal.{Refusal}
use Rattle.refusals.specs.declared.refusal.Refusal.TheVariants.{MeshSize, GridSize, TooFewSlots, NoSuchStream, AlreadyOpen, NotOpen, BadEndpoints, ZeroAmount, HopCount, OffGrid, WrongStart, NoTurn, LaneTooLow, WrongEnd, RepeatedLink, OverCapacity, NoRoute, ItemsOnGrid, LaneFull, LaneEmpty, Held, NumberCut, NumberForm, BadHead, TrailingBytes, BufferTooShort}

abbrev pub refusal_number : Refusal → ℕ
refusal_number MeshSize = 1
refusal_number GridSize = 2
refusal_number TooFewSlots = 3
refusal_number NoSuchStream = 4
refusal_number AlreadyOpen = 5
refusal_number NotOpen = 6
refusal_number BadEndpoints = 7
refusal_number ZeroAmount = 8
refusal_number HopCount = 9
refusal_number OffGrid = 10
refusal_number WrongStart = 11
refusal_number NoTurn = 12
refusal_number LaneTooLow = 13
refusal_number WrongEnd = 14
refusal_number RepeatedLink = 15
refusal_number OverCapacity = 16
refusal_number NoRoute = 17
refusal_number ItemsOnGrid = 18
refusal_number LaneFull = 19
refusal_number LaneEmpty = 20
refusal_number Held = 21
refusal_number NumberCut = 22
refusal_number NumberForm = 23
refusal_number BadHead = 24
refusal_number TrailingBytes = 25
refusal_number BufferTooShort = 26
