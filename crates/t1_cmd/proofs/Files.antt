-- Files that are read one after the other.
use Rattle.std.proofs.Common.{◌≡◌, ◌<◌, ◌≤◌, ◌+◌, ℕ, zero, suc, refl, sym, ◌∙◌, ap, subst, List, [], ◌∷◌, ◌++◌, length, drop, get_or, append_assoc, arith, Option, Some, None, Result, Ok, Err, OnOk}
use Rattle.std.proofs.{Common.{is_err, false}, lemmas.List.{append-nil}}
use Rattle.std.specs.Borrow.{Bor}
use Rattle.t1_subset.specs.NameSets.{lent}
use Rattle.t1_cmd.specs.{declared.faults.FilesRefusal.{FilesRefusal}, declared.faults.Reason.{Reason}}
use Rattle.t1_cmd.specs.declared.faults.Reason.TheVariants.{TooLong, Memory, List as ListReason, Join as JoinReason, Font, NoGlyph, NoCode}
use Rattle.t1_cmd.specs.declared.faults.Reason.TheVariants.{NoFont, Document as DocumentReason, TooManyTokens, Lacks, Merge}
use Rattle.t1_cmd.specs.{Answers.{MayRefuse}}
use Rattle.t1_cmd.specs.Files.{Values, value_before, values_from, IsUnread, IsRefusalAt, OfFiles, RefusedAt}
use Rattle.t1_cmd.proofs.Refusals.{refuses, by_answer}

-- ---- lists of files

-- from a place within the list on stands the file at the place, and then the files behind it
next_file : (files : List (Bor (List ℕ))) (place : ℕ) (file d : Bor (List ℕ))
    → place < length files → file ≡ get_or files place d → drop place files ≡ file ∷ drop (suc place) files
next_file [] place file d l h = absurd (omega (arith, l))
next_file (x ∷ files) zero file d l h = sym (ap (λ (b : Bor (List ℕ)). b ∷ files) h)
next_file (x ∷ files) (suc place) file d l h = next_file files place file d (omega (arith, l)) h

-- the same, with the next place as a sum
from_place : (files : List (Bor (List ℕ))) (place : ℕ) (file d : Bor (List ℕ))
    → place < length files → file ≡ get_or files place d → drop place files ≡ file ∷ drop (place + 1) files
from_place files place file d l h =
    let more : suc place ≡ place + 1 = omega arith in
    subst (λ n. drop place files ≡ file ∷ drop n files) more (next_file files place file d l h)

-- behind the last place stands no file
none_behind : (files : List (Bor (List ℕ))) (place : ℕ) → length files ≤ place → drop place files ≡ []
none_behind [] zero l = refl
none_behind [] (suc place) l = refl
none_behind (x ∷ files) zero l = absurd (omega (arith, l))
none_behind (x ∷ files) (suc place) l = none_behind files place (omega (arith, l))

-- a call that met no error has its clause
pub no_error : {V E : Type 0} (r : Result V E) (P : Type 0) → is_err r ≡ false → OnOk r P → P
no_error (Ok v) P h p = p
no_error (Err e) P h p = cc

module _ {A : Type 0} (understand : List ℕ → Result A Reason) where
  -- ---- what files say

  -- what some files said, before what others say
  abbrev pub values_before : List A → Values A → Values A
  values_before done (Ok rest) = Ok (done ++ rest)
  values_before done (Err e) = Err e

  -- what all files say is what those said that are read, and then what the files from this place on say
  abbrev pub SoFar : ℕ → List (Bor (List ℕ)) → List A → Type 0
  SoFar place files done = values_from understand 0 (lent files) ≡ values_before done (values_from understand place (lent (drop place files)))

  -- before the first file, none is read
  pub none_read : (files : List (Bor (List ℕ))) (done : List A) → done ≡ [] → SoFar 0 files done
  none_read files done h = subst (λ (d : List A). SoFar 0 files d) (sym h) (by (values_from understand 0 (lent files)))
    where
      by : (rest : Values A) → rest ≡ values_before [] rest
      by (Ok xs) = refl
      by (Err e) = refl

  -- a file that says something adds it
  value_then : (place : ℕ) (done : List A) (x : A) (r : Result A Reason) (rest : Values A)
      → r ≡ Ok x → values_before done (value_before place r rest) ≡ values_before (done ++ x ∷ []) rest
  value_then place done x (Err r) rest h = cc
  value_then place done x (Ok y) (Err e) h = refl
  value_then place done x (Ok y) (Ok ys) h =
      let same : y ≡ x = cc in
      ap {B = Values A} (λ (z : A). Ok (done ++ z ∷ ys)) same ∙ ap {B = Values A} (λ (zs : List A). Ok zs) (sym (append_assoc done (x ∷ []) ys))

  -- a file that is refused refuses all
  refused_then : (place : ℕ) (done : List A) (reason : Reason) (r : Result A Reason) (rest : Values A)
      → r ≡ Err reason → values_before done (value_before place r rest) ≡ Err (place, reason)
  refused_then place done reason (Ok x) rest h = cc
  refused_then place done reason (Err s) rest h = cc

  -- what all files say, by the file at a place
  by_place : (files : List (Bor (List ℕ))) (place : ℕ) (done : List A) (d : Bor (List ℕ)) → SoFar place files done → place < length files
      → values_from understand 0 (lent files)
      ≡ values_before done (value_before place (understand (get_or files place d).now) (values_from understand (place + 1) (lent (drop (place + 1) files))))
  by_place files place done d h l =
      let file = get_or files place d in
      h ∙ ap (λ (rest : List (Bor (List ℕ))). values_before done (values_from understand place (lent rest))) (from_place files place file d l refl)

  -- one more file is read
  pub one_more : (files : List (Bor (List ℕ))) (place : ℕ) (done : List A) (d : Bor (List ℕ)) (x : A) → SoFar place files done
      → place < length files → understand (get_or files place d).now ≡ Ok x → SoFar (place + 1) files (done ++ x ∷ [])
  one_more files place done d x h l e =
      by_place files place done d h l
      ∙ value_then place done x (understand (get_or files place d).now) (values_from understand (place + 1) (lent (drop (place + 1) files))) e

  -- behind the last file, all are read
  pub all_read : (files : List (Bor (List ℕ))) (place : ℕ) (done : List A)
      → SoFar place files done → length files ≤ place → values_from understand 0 (lent files) ≡ Ok done
  all_read files place done h l =
      h ∙ (ap (λ (rest : List (Bor (List ℕ))). values_before done (values_from understand place (lent rest))) (none_behind files place l)
      ∙ ap {B = Values A} (λ (xs : List A). Ok xs) (append-nil done))

  -- ---- refusals

  -- a file that is refused is the first one
  pub first_refused : (files : List (Bor (List ℕ))) (place : ℕ) (done : List A) (d : Bor (List ℕ)) (r : Reason) → SoFar place files done
      → place < length files → Err r ≡ understand (get_or files place d).now → values_from understand 0 (lent files) ≡ Err (place, r)
  first_refused files place done d r h l e =
      by_place files place done d h l
      ∙ refused_then place done r (understand (get_or files place d).now) (values_from understand (place + 1) (lent (drop (place + 1) files))) (sym e)

  -- a refusal is made of its place and its reason
  unread_at : (files : List (List ℕ)) (e : FilesRefusal) (place : Option ℕ) (r : Reason)
      → e.place ≡ place → e.reason ≡ r → IsUnread understand files place r → IsUnread understand files e.place e.reason
  unread_at files e place r p q h =
      subst (λ (o : Option ℕ). IsUnread understand files o e.reason) (sym p) (subst (λ (s : Reason). IsUnread understand files place s) (sym q) h)

  -- the first file that is refused stands at this place, and this is why
  abbrev pub FailsAt : List (List ℕ) → ℕ → Result A Reason → Type 0
  FailsAt files place (Ok x) = ⊥
  FailsAt files place (Err r) = values_from understand 0 files ≡ Err (place, r)

  -- the refusal of the first file that is refused ends the reading
  pub refused_file : (files : List (List ℕ)) (place : ℕ) (r : Reason) (e : FilesRefusal)
      → IsRefusalAt place r e → MayRefuse (FailsAt files place) r → IsUnread understand files e.place e.reason
  refused_file files place Memory e at h = unread_at files e None Memory at.0 at.1 refl
  refused_file files place TooLong e at h = unread_at files e (Some place) TooLong at.0 at.1 h
  refused_file files place (ListReason f) e at h = unread_at files e (Some place) (ListReason f) at.0 at.1 h
  refused_file files place (JoinReason f) e at h = unread_at files e (Some place) (JoinReason f) at.0 at.1 h
  refused_file files place (Font f) e at h = unread_at files e (Some place) (Font f) at.0 at.1 h
  refused_file files place (NoGlyph n) e at h = unread_at files e (Some place) (NoGlyph n) at.0 at.1 h
  refused_file files place (NoCode code) e at h = unread_at files e (Some place) (NoCode code) at.0 at.1 h
  refused_file files place (DocumentReason why) e at h = unread_at files e (Some place) (DocumentReason why) at.0 at.1 h
  refused_file files place (NoFont n) e at h = unread_at files e (Some place) (NoFont n) at.0 at.1 h
  refused_file files place TooManyTokens e at h = unread_at files e (Some place) TooManyTokens at.0 at.1 h
  refused_file files place (Lacks g k) e at h = unread_at files e (Some place) (Lacks g k) at.0 at.1 h
  refused_file files place (Merge m) e at h = unread_at files e (Some place) (Merge m) at.0 at.1 h

  -- a file that is refused ends the reading of all
  pub refuses_all : (files : List (Bor (List ℕ))) (place : ℕ) (done : List A) (d : Bor (List ℕ)) (r : Reason) (e : FilesRefusal)
      → SoFar place files done → place < length files → MayRefuse (λ a. a ≡ understand (get_or files place d).now) r
      → IsRefusalAt place r e → IsUnread understand (lent files) e.place e.reason
  refuses_all files place done d r e h l s at =
      refused_file (lent files) place r e at
      (by_answer (λ a. a ≡ understand (get_or files place d).now) (MayRefuse (FailsAt (lent files) place)) r tt
      (λ t k. refuses (FailsAt (lent files) place) t (first_refused files place done d t h l k)) s)

  -- what ends the reading refuses the files
  pub unread : (Answers : List A → Result (List ℕ) Reason → Type 0) (files : List (List ℕ)) (place : Option ℕ) (r : Reason)
      → IsUnread understand files place r → RefusedAt understand Answers files place r
  unread Answers files (Some place) r h = h
  unread Answers files None r h = subst (MayRefuse (OfFiles understand Answers files)) (sym h) tt

  -- what refuses what files say refuses the files
  pub refuses_values : (Answers : List A → Result (List ℕ) Reason → Type 0) (files : List (List ℕ)) (values : List A) (r : Reason)
      → values_from understand 0 files ≡ Ok values → MayRefuse (Answers values) r → MayRefuse (OfFiles understand Answers files) r
  refuses_values Answers files values r is =
      by_answer (Answers values) (MayRefuse (OfFiles understand Answers files)) r tt (λ s h. refuses (OfFiles understand Answers files) s (values, is, h))
