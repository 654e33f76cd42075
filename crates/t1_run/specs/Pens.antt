-- What pens make of marks.
use Rattle.std.specs.Prelude.{◌≡◌, List, [], ◌∷◌, ◌++◌}
use Rattle.t1_run.specs.declared.answer.Mark.{Mark}

-- A page after these marks, one after another, by what each makes of it.
abbrev pub drawn_on : {Page : Type 0} → (Page → Mark → Page) → Page → List Mark → Page
drawn_on marked page [] = page
drawn_on marked page (m ∷ marks) = drawn_on marked (marked page m) marks

-- These marks made one page of the other.
abbrev pub Draws : {Page : Type 0} → (Page → Mark → Page) → (old new : Page) → List Mark → Type 0
Draws marked old new marks = new ≡ drawn_on marked old marks

-- A list of marks, with one more at its end.
abbrev pub with_mark : List Mark → Mark → List Mark
with_mark marks m = marks ++ m ∷ []
