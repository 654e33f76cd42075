-- What is known of the glyph that was run last, where a glyph with the same charstring isn't run again.
use Rattle.std.specs.Prelude.{◌≡◌, ℕ, List, Option, IfSome, map}
use Rattle.t1_run.specs.Budgets.{tokens_of}
use Rattle.t1_font.specs.FontValue.{FontValue}
use Rattle.t1_algebra.specs.{Interpreter.{Numbers}, Keep.{components}, Profile.{profile}}
use Rattle.t1_subset.specs.declared.last_runs.LastRun.{LastRun}
use Rattle.std.specs.FinMap as maps
use Rattle.std.specs.FinSet as sets

-- the runs of a charstring name these components, execute only indices that are in a set, and take so many tokens, where they are counted
pub record RunsTo (f : FontValue) (calls : Numbers) (left : Option ℕ) (named : List (List ℕ)) (tokens : ℕ) (c : List ℕ) : Type 0 where
  pub names : named ≡ components profile f.subrs c
  pub executes : sets.union calls (profile.exec f.subrs c) ≡ calls
  pub takes : IfSome left (λ _. tokens ≡ tokens_of (maps.get f.subrs) c)

-- the glyph that was run last, if there is one, came to what is noted of it
abbrev pub WasRun : FontValue → Numbers → Option ℕ → LastRun → Type 0
WasRun f calls left r = IfSome r.charstring (λ c. RunsTo f calls left (map (λ s. s.now) r.components.items) r.tokens c.now)
