-- Bytes for a caller's buffer.
use Rattle.std.specs.Prelude.{ℕ, cond, List, length, Ok, Err, Result, nat_lt}
use Rattle.refusals.specs.declared.refusal.Refusal.{Refusal}
use Rattle.refusals.specs.declared.refusal.Refusal.TheVariants.{BufferTooShort}
pub use Rattle.grid.specs.Routes.{Puts}

-- bytes for a buffer of a size, or that it is too short
abbrev pub fitted : ℕ → List ℕ → Result (List ℕ) Refusal
fitted size bytes = cond (nat_lt size (length bytes)) (Err BufferTooShort) (Ok bytes)
