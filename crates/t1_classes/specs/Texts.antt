-- What is printed of refusals.
use Rattle.std.specs.Prelude.{ℕ, List}
use Rattle.t1_font.specs.FaultTexts.{fault_text}
use Rattle.t1_subset.specs.FaultTexts.{rejoin_text}
use Rattle.t1_classes.specs.{declared.refusals.Refusal.{Refusal}, declared.refusals.Refusal.TheVariants.{Unread, Unlike}}

-- what is printed of a refusal
abbrev pub refusal_text : Refusal → List ℕ
refusal_text (Unread fault) = fault_text fault
refusal_text (Unlike fault) = rejoin_text fault
