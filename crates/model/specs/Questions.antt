-- The questions: what each answers. They change nothing.
use Rattle.std.specs.Prelude.{ℕ, cond, List, length, Ok, Err, Option, Result, nat_lt}
use Rattle.std.specs.Result.{result_map_both}
use Rattle.refusals.specs.declared.refusal.Refusal.{Refusal}
use Rattle.refusals.specs.declared.refusal.Refusal.TheVariants.{OffGrid}
use Rattle.routes.specs.declared.hop.Hop.{Hop}
use Rattle.routes.specs.declared.stream.Request.{Request}
use Rattle.routes.specs.Routes.{OpenStream, is_on_grid}
use Rattle.routes.specs.Loads.{load}
use Rattle.model.specs.Grid.{Setting, Grid}
use Rattle.model.specs.Calls.{open_stream}

-- what an open stream asked for, and the hops of its route
abbrev pub fields_of : (ℕ → Option OpenStream) → ℕ → Result Request Refusal
fields_of streams n = result_map_both (λ s. s.request) (λ e. e) (open_stream streams n)

abbrev pub hops_of_stream : (ℕ → Option OpenStream) → ℕ → Result (List Hop) Refusal
hops_of_stream streams n = result_map_both (λ s. s.hops) (λ e. e) (open_stream streams n)

-- the load of a link, of so many
abbrev pub load_on : ℕ → (ℕ → Option OpenStream) → ℕ → Result ℕ Refusal
load_on links streams link = cond (nat_lt link links) (Ok (load streams link)) (Err OffGrid)

-- how many items a lane contains
abbrev pub count_in : {T : Type 0} → Setting → Grid T → Hop → Result ℕ Refusal
count_in S g h = cond (is_on_grid S.links S.lanes h) (Ok (length (g.contents h.link h.lane))) (Err OffGrid)
