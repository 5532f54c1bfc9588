-- How the answers of conses are counted.
use Rattle.std.specs.Prelude.{ℕ, ◌+◌, min, Ok, Err, Result}
use Rattle.controller.specs.declared.room.Room.{Room}
use Rattle.machine.specs.declared.faults.MemoryFault.{MemoryFault}
use Rattle.machine.specs.declared.faults.MemoryFault.TheVariants.{Shut, AlreadyOpen, HalfSize, Pace, Limit, NoRegister, NotCell, Kind, Scanning, Full, NoHold, HoldTaken, NotHeld, NotAtom}

-- the counters stop at their most
abbrev one_more : ℕ → ℕ
one_more n = min (n + 1) 4294967295

-- only the two refusals for room are counted
abbrev refused_for : Room → MemoryFault → Room
refused_for room Scanning = record { granted = room.granted; refused = one_more room.refused }
refused_for room Full = record { granted = room.granted; refused = one_more room.refused }
refused_for room Shut = room
refused_for room AlreadyOpen = room
refused_for room HalfSize = room
refused_for room Pace = room
refused_for room Limit = room
refused_for room (NoRegister r) = room
refused_for room (NotCell r) = room
refused_for room (Kind k) = room
refused_for room (NoHold p) = room
refused_for room (HoldTaken p) = room
refused_for room (NotHeld p) = room
refused_for room (NotAtom n) = room

abbrev pub noted : Room → Result (Unit {0}) MemoryFault → Room
noted room (Ok u) = record { granted = one_more room.granted; refused = room.refused }
noted room (Err fault) = refused_for room fault
