-- What pens made of marks.
use Rattle.std.proofs.{Common.{◌≡◌, refl, sym, ap, ◌∙◌, List, [], ◌∷◌, ◌++◌, append_assoc}, lemmas.List.{append-nil}}
use Rattle.t1_run.specs.{declared.answer.Mark.{Mark}, Pens.{drawn_on, Draws, with_mark}}

-- the marks of two lists, one list after the other
drawn_on-append : {Page : Type 0} (marked : Page → Mark → Page) (page : Page) (xs ys : List Mark) →
    drawn_on marked page (xs ++ ys) ≡ drawn_on marked (drawn_on marked page xs) ys
drawn_on-append marked page [] ys = refl
drawn_on-append marked page (x ∷ xs) ys = drawn_on-append marked (marked page x) xs ys

-- more marks were drawn
pub draws_more : {Page : Type 0} (marked : Page → Mark → Page) (old mid new : Page) (xs ys : List Mark) → Draws marked old mid xs → Draws marked mid new ys →
    Draws marked old new (xs ++ ys)
draws_more marked old mid new xs ys first then = then ∙ ap (λ page. drawn_on marked page ys) first ∙ sym (drawn_on-append marked old xs ys)

-- the marks that are kept are those that were drawn
pub kept_marks : (old marks : List Mark) → drawn_on with_mark old marks ≡ old ++ marks
kept_marks old [] = sym (append-nil old)
kept_marks old (m ∷ marks) = kept_marks (old ++ m ∷ []) marks ∙ append_assoc old (m ∷ []) marks
