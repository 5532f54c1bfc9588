-- What callers know after a refused back.
use Rattle.std.proofs.Common.{◌≡◌, Ok, Err, Result}
use Rattle.machine.specs.Holds.{KeptPass}
use Rattle.memory.specs.Tokens.{kept}
use Rattle.memory.specs.declared.token.Kept.{Kept}
use Rattle.memory.specs.declared.token.Token.{Token}

-- a refused back returns the very token that was offered
pub refused_token : (token : Token) (answer : Result (Unit {0}) KeptPass) (refusal : Kept) → Err refusal ≡ kept token answer → refusal.token ≡ token
refused_token token (Ok u) refusal e = cc
refused_token token (Err k) refusal e = cc
