-- The console's memory as a session finds it.
use Rattle.machine.specs.Machine.{Machine, shut_machine}
use Rattle.std.specs.Prelude.{replicate}

-- shut, over 64 words of zero
abbrev pub console_machine : Machine
console_machine = shut_machine (replicate 64 0)
