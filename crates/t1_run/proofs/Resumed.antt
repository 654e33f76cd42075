-- Runs that are resumed after others, and runs that are deeper in calls.
use Rattle.std.proofs.{Common.{◌≡◌, refl, ap, ◌∙◌, ℕ, zero, suc, List, [], ◌∷◌, ◌++◌, map, length, append_assoc}, lemmas.List.{map-append, append-nil, length-map}}
use Rattle.t1_run.specs.{State.{State, Ending, Back, Plain, Seac, Failed}, declared.answer.Mark.{Mark}, Run.{Visit, Outcome, ends, after, visiting, one_deeper, deeper, then_run, resume, marks_by}}
use Rattle.t1_run.specs.Frames.{deeper_by}

-- ---- resumed runs

-- calls and visits come before what is resumed
pub resume_after : (calls : List ℕ) (o : Outcome) (g : State → Outcome) → resume (after calls o) g ≡ after calls (resume o g)
resume_after calls o g =
    let on : Outcome = then_run o.ending g in
    λ i. record { ending = on.ending; indices = append_assoc calls o.indices on.indices i; visits = o.visits ++ on.visits }

-- a run that is resumed after visits has these visits first
pub resume_visiting : (visits : List Visit) (o : Outcome) (g : State → Outcome) → resume (visiting visits o) g ≡ visiting visits (resume o g)
resume_visiting visits o g =
    let on : Outcome = then_run o.ending g in
    λ i. record { ending = on.ending; indices = o.indices ++ on.indices; visits = append_assoc visits o.visits on.visits i }

-- an outcome, and what comes after its calls and visits
abbrev continued : Outcome → Outcome → Outcome
continued o rest = after o.indices (visiting o.visits rest)

resume_continued : (o rest : Outcome) (g : State → Outcome) → resume (continued o rest) g ≡ continued o (resume rest g)
resume_continued o rest g = resume_after o.indices (visiting o.visits rest) g ∙ ap (after o.indices) (resume_visiting o.visits rest g)

-- what is resumed twice is resumed once by both
pub resume_twice : (o : Outcome) (f g : State → Outcome) → resume (resume o f) g ≡ resume o (λ s. resume (f s) g)
resume_twice o f g =
    elim o.ending as (λ e. resume (continued o (then_run e f)) g ≡ continued o (then_run e (λ s. resume (f s) g))) [
      | Back s ↦ resume_continued o (f s) g
      | Plain m marks ↦ resume_continued o (ends (Plain m marks)) g
      | Seac a ↦ resume_continued o (ends (Seac a)) g
      | Failed fault ↦ resume_continued o (ends (Failed fault)) g
    ]

-- a run on which nothing follows
pub resume_nothing : (o : Outcome) → resume o (λ s. ends (Back s)) ≡ o
resume_nothing o =
    elim o.ending as (λ e. continued o (then_run e (λ s. ends (Back s))) ≡ record o { ending = e }) [
      | Back s ↦ same (Back s)
      | Plain m marks ↦ same (Plain m marks)
      | Seac a ↦ same (Seac a)
      | Failed fault ↦ same (Failed fault)
    ]
  where
    same : (e : Ending) → continued o (ends e) ≡ record o { ending = e }
    same e = λ i. record { ending = e; indices = append-nil o.indices i; visits = append-nil o.visits i }

-- ---- deeper runs

-- a resumed run is deeper where both its parts are
deeper-resume : (o : Outcome) (g : State → Outcome) → deeper (resume o g) ≡ resume (deeper o) (λ s. deeper (g s))
deeper-resume o g =
    let on : Outcome = then_run o.ending g in
    (λ i. record { ending = on.ending; indices = o.indices ++ on.indices; visits = map-append one_deeper o.visits on.visits i })
    ∙ ap (continued (deeper o)) (rest o.ending)
  where
    rest : (e : Ending) → deeper (then_run e g) ≡ then_run e (λ s. deeper (g s))
    rest (Back s) = refl
    rest (Plain m marks) = refl
    rest (Seac a) = refl
    rest (Failed fault) = refl

-- a resumed run is so many calls deeper in both of its parts
pub deeper_by-resume : (n : ℕ) (o : Outcome) (g : State → Outcome) → deeper_by n (resume o g) ≡ resume (deeper_by n o) (λ s. deeper_by n (g s))
deeper_by-resume zero o g = refl
deeper_by-resume (suc n) o g = ap (deeper_by n) (deeper-resume o g) ∙ deeper_by-resume n (deeper o) (λ s. deeper (g s))

-- an ending alone is as deep as before
pub deeper_by-ends : (n : ℕ) (e : Ending) → deeper_by n (ends e) ≡ ends e
deeper_by-ends zero e = refl
deeper_by-ends (suc n) e = deeper_by-ends n e

-- calls that come first stay when a run is deeper
pub deeper_by-after : (n : ℕ) (calls : List ℕ) (o : Outcome) → deeper_by n (after calls o) ≡ after calls (deeper_by n o)
deeper_by-after zero calls o = refl
deeper_by-after (suc n) calls o = deeper_by-after n calls (deeper o)

-- visits so many calls deeper
pub visits_by : ℕ → List Visit → List Visit
visits_by zero visits = visits
visits_by (suc n) visits = visits_by n (map one_deeper visits)

-- visits that come first are deeper with their run
pub deeper_by-visiting : (n : ℕ) (visits : List Visit) (o : Outcome) → deeper_by n (visiting visits o) ≡ visiting (visits_by n visits) (deeper_by n o)
unfolding visits_by
deeper_by-visiting zero visits o = refl
deeper_by-visiting (suc n) visits o =
    ap (deeper_by n) (λ i. record o { visits = map-append one_deeper visits o.visits i }) ∙ deeper_by-visiting n (map one_deeper visits) (deeper o)

-- no visits, so many calls deeper, leave the marks as they are
pub none_by : (n : ℕ) (marks : List Mark) → marks_by marks (visits_by n []) ≡ marks
unfolding visits_by
none_by zero marks = refl
none_by (suc n) marks = none_by n marks

-- a visit leaves its marks, however deep
pub one_by : (n : ℕ) (marks : List Mark) (v : Visit) → marks_by marks (visits_by n (v ∷ [])) ≡ v.marks
unfolding visits_by
one_by zero marks v = refl
one_by (suc n) marks v = one_by n marks (one_deeper v)

-- the marks after some visits and then others
pub marks_by-append : (marks : List Mark) (xs ys : List Visit) → marks_by marks (xs ++ ys) ≡ marks_by (marks_by marks xs) ys
marks_by-append marks [] ys = refl
marks_by-append marks (v ∷ xs) ys = marks_by-append v.marks xs ys

-- visits are as many, however deep
pub length_by : (n : ℕ) (visits : List Visit) → length (visits_by n visits) ≡ length visits
unfolding visits_by
length_by zero visits = refl
length_by (suc n) visits = length_by n (map one_deeper visits) ∙ length-map visits one_deeper
