-- What is read within a text doesn't depend on what stands behind it, as long as that stops every part of the grammar.
use Rattle.std.proofs.Common.{◌≡◌, ℕ, inl, inr, ◌⊎◌, Bool, true, false, cond, eqb, List, [], ◌∷◌, ◌++◌, take, drop, Option, Some, None, refl, sym, ap, ◌∙◌, append_assoc, one-add, subst}
use Rattle.std.proofs.{lemmas.Option.{none-some, some_pair_parts, same_Some}, lemmas.List.{append-nil}, lemmas.Bool.{cases_Bool}}
use Rattle.std.specs.{Prelude.{codes}, List.{AllByRecursion, prefix_len}, Option.{option_and_then}}
use Rattle.t1_grammar.specs.{Grammar.{Grammar, pure, ◌>>=◌, that, run, before, fixed, NotAtFront, NoneIn, Stops, first_at, first_here, unspelled, unread}, Places.{prepend}}
use Rattle.t1_bytes.specs.{White.{is_white, gap}, Eexec.{eexec_marker, blank_comes}}
use Rattle.t1_text.specs.{Words.{is_regular, keyword, decimal, digits_after, is_decimal}, Markers.{subrs_marker, chars_marker, encoding_marker, white_comes, break_comes}}
use Rattle.t1_text.proofs.{FirstPlace.{prepend-nil, prepend-prepend, one_place}, Borders.{strip, fixed_strip}}

module _ (u v : List ℕ) where
  -- both are none, or both are one value, before one text with u and v behind it
  abbrev pub Alike : {A : Type 0} → Option (A × List ℕ) → Option (A × List ℕ) → Type 0
  Alike {A} o p = ((o ≡ None) × (p ≡ None)) ⊎ ((a : A) × (ys : List ℕ) × (o ≡ Some (a, ys ++ u)) × (p ≡ Some (a, ys ++ v)))

  -- what g reads of a text is the same before u and before v
  pub record Within {A : Type 0} (g : Grammar A) : Type 0 where
    pub alike : (xs : List ℕ) → Alike (g.read (xs ++ u)) (g.read (xs ++ v))

  pub pure_within : {A : Type 0} (a : A) → Within (pure a)
  pure_within a = record { alike = λ xs. inr (a, xs, refl, refl) }

  pub bind_within : {A B : Type 0} (g : Grammar A) (f : A → Grammar B) → Within g → ((a : A) → Within (f a)) → Within (g >>= f)
  bind_within g f G F = record {
    alike = λ xs. elim (G.alike xs) [
      | inl n ↦ inl (rw n.0 refl, rw n.1 refl)
      | inr s ↦ rw (s.2, s.3) ((F s.0).alike s.1)
    ];
  }

  pub that_within : {A : Type 0} (test : A → Bool) (g : Grammar A) → Within g → Within (that test g)
  that_within test g G = record {
    alike = λ xs. elim (G.alike xs) [
      | inl n ↦ inl (rw n.0 refl, rw n.1 refl)
      | inr s ↦ elim (cases_Bool (test s.0)) [
        | inl t ↦ inr (s.0, s.1, rw (s.2, t) refl, rw (s.3, t) refl)
        | inr t ↦ inl (rw (s.2, t) refl, rw (s.3, t) refl)
      ]
    ];
  }

stops_none : (p : ℕ → Bool) (u : List ℕ) → Stops p u → prefix_len p u ≡ 0
stops_none p [] s = refl
stops_none p (b ∷ bs) s = rw s refl

-- a run that u stops is that of the text before u
pub run_front : (p : ℕ → Bool) (xs u : List ℕ) → Stops p u → (run p).read (xs ++ u) ≡ Some (take (prefix_len p xs) xs, drop (prefix_len p xs) xs ++ u)
run_front p [] u s = rw (stops_none p u s) refl
run_front p (x ∷ xs) u s = elim (cases_Bool (p x)) [
  | inl t ↦ let e = run_front p xs u s in
      rw (t, one-add, one-add) (more x (take (prefix_len p (xs ++ u)) (xs ++ u)) (drop (prefix_len p (xs ++ u)) (xs ++ u)) _ _ e)
  | inr t ↦ rw t refl
]
  where
    more : (x : ℕ) (a b c d : List ℕ) → ◌≡◌ {A = Option (List ℕ × List ℕ)} (Some (a, b)) (Some (c, d)) →
        ◌≡◌ {A = Option (List ℕ × List ℕ)} (Some (x ∷ a, b)) (Some (x ∷ c, d))
    more x a b c d e = let parts = some_pair_parts a c b d e in rw (parts.0, parts.1) refl

-- no byte of w begins the text
abbrev pub Foreign : List ℕ → List ℕ → Type 0
Foreign w u = AllByRecursion (λ c. strip (c ∷ []) u ≡ None) w

foreign_strip : (c : ℕ) (w u : List ℕ) → strip (c ∷ []) u ≡ None → strip (c ∷ w) u ≡ None
foreign_strip c w [] h = refl
foreign_strip c w (b ∷ u) h = elim (cases_Bool (eqb c b)) [
  | inl t ↦ let k : ◌≡◌ {A = Option (List ℕ)} (Some u) None = rw t at h in absurd (none-some u (sym k))
  | inr t ↦ rw t refl
]

module _ (u v : List ℕ) where
  pub run_within : (p : ℕ → Bool) → Stops p u → Stops p v → Within u v (run p)
  run_within p s t = record { alike = λ xs. inr (take (prefix_len p xs) xs, drop (prefix_len p xs) xs, run_front p xs u s, run_front p xs v t) }

  strip_within : (w : List ℕ) → Foreign w u → Foreign w v → (a xs : List ℕ) →
      Alike u v (option_and_then (λ r. Some (a, r)) (strip w (xs ++ u))) (option_and_then (λ r. Some (a, r)) (strip w (xs ++ v)))
  strip_within [] h k a xs = inr (a, xs, refl, refl)
  strip_within (c ∷ w) h k a [] = inl (rw (foreign_strip c w u h.0) refl, rw (foreign_strip c w v k.0) refl)
  strip_within (c ∷ w) h k a (x ∷ xs) = elim (cases_Bool (eqb c x)) [
    | inl t ↦ rw t (strip_within w h.1 k.1 a xs)
    | inr t ↦ inl (rw t refl, rw t refl)
  ]

  pub fixed_within : (w : List ℕ) → Foreign w u → Foreign w v → Within u v (fixed w)
  fixed_within w h k = record { alike = λ xs. rw (fixed_strip w (xs ++ u), fixed_strip w (xs ++ v)) (strip_within w h k w xs) }

  -- w behind a first byte
  pub fixed_behind : (b : ℕ) (w : List ℕ) → Foreign w u → Foreign w v → (x : ℕ) (xs : List ℕ) →
      Alike u v ((fixed (b ∷ w)).read (x ∷ (xs ++ u))) ((fixed (b ∷ w)).read (x ∷ (xs ++ v)))
  fixed_behind b w h k x xs = rw (fixed_strip (b ∷ w) (x ∷ (xs ++ u)), fixed_strip (b ∷ w) (x ∷ (xs ++ v))) (by_first (eqb b x) refl)
    where
      by_first : (t : Bool) → eqb b x ≡ t → Alike u v (option_and_then (λ r. Some (b ∷ w, r)) (strip (b ∷ w) (x ∷ (xs ++ u))))
          (option_and_then (λ r. Some (b ∷ w, r)) (strip (b ∷ w) (x ∷ (xs ++ v))))
      by_first true t = rw t (strip_within w h k (b ∷ w) xs)
      by_first false t = inl (rw t refl, rw t refl)

  -- a test of the first byte
  pub before_within : (test : List ℕ → Bool) → ((b : ℕ) (bs cs : List ℕ) → test (b ∷ bs) ≡ test (b ∷ cs)) → test u ≡ test v → Within u v (before test)
  before_within test first ends = record { alike = agrees }
    where
      agrees : (xs : List ℕ) → Alike u v ((before test).read (xs ++ u)) ((before test).read (xs ++ v))
      agrees [] = elim (cases_Bool (test u)) [
        | inl t ↦ inr (tt, [], rw t refl, rw (sym ends, t) refl)
        | inr t ↦ inl (rw t refl, rw (sym ends, t) refl)
      ]
      agrees (x ∷ xs) = elim (cases_Bool (test (x ∷ (xs ++ u)))) [
        | inl t ↦ inr (tt, x ∷ xs, rw t refl, rw (first x (xs ++ v) (xs ++ u), t) refl)
        | inr t ↦ inl (rw t refl, rw (first x (xs ++ v) (xs ++ u), t) refl)
      ]

  pub gap_within : Stops is_white u → Stops is_white v → Within u v gap
  unfolding gap
  gap_within s t = that_within u v _ _ (run_within is_white s t)

  pub keyword_within : (w : List ℕ) → Stops is_regular u → Stops is_regular v → Within u v (keyword w)
  unfolding keyword
  keyword_within w s t = that_within u v _ _ (run_within is_regular s t)

  pub decimal_within : Stops is_regular u → Stops is_regular v → Within u v decimal
  unfolding decimal
  decimal_within s t = bind_within u v _ _ (that_within u v is_decimal _ (run_within is_regular s t)) (λ w. pure_within u v (digits_after 0 w))

  -- read alike behind each first byte
  abbrev pub Behind : {A : Type 0} → Grammar A → Type 0
  Behind g = (b : ℕ) (xs : List ℕ) → Alike u v (g.read (b ∷ (xs ++ u))) (g.read (b ∷ (xs ++ v)))

  -- what is read alike before both is so behind each first byte
  pub behind : {A : Type 0} (g : Grammar A) → Within u v g → Behind g
  behind g G b xs = G.alike (b ∷ xs)

  -- a marker that stands at no place of a text stands at none before another such end
  pub none_moves : {A : Type 0} (g : Grammar A) → Behind g → (front : List ℕ) → NoneIn g front u → NoneIn g front v
  none_moves g G [] none = tt
  none_moves g G (b ∷ front) none = (
    unspelled g (b ∷ (front ++ v))
        (elim (G b front) [ inl n ↦ n.1 | inr s ↦ absurd (none-some _ (sym (unread g (b ∷ (front ++ u)) none.0) ∙ s.2)) ]),
    none_moves g G front none.1,
  )

-- ---- the markers before a slash

-- no slash is among these bytes
abbrev pub is_slashless : List ℕ → Bool
is_slashless [] = true
is_slashless (c ∷ w) = cond (eqb c 47) false (is_slashless w)

-- a word without a slash is no part of a text that begins with one
pub slash_word : (w r : List ℕ) → is_slashless w ≡ true → Foreign w (47 ∷ r)
slash_word [] r h = tt
slash_word (c ∷ w) r h = elim (cases_Bool (eqb c 47)) [
  | inl t ↦ let k : false ≡ true = rw t at h in absurd (cc)
  | inr t ↦ let k : is_slashless w ≡ true = rw t at h in (rw t refl, slash_word w r k)
]

module _ (r s : List ℕ) where
  -- two texts that begin with a slash
  slash_gap : Within (47 ∷ r) (47 ∷ s) gap
  slash_gap = gap_within (47 ∷ r) (47 ∷ s) refl refl

  slash_keyword : (w : List ℕ) → Within (47 ∷ r) (47 ∷ s) (keyword w)
  slash_keyword w = keyword_within (47 ∷ r) (47 ∷ s) w refl refl

  slash_decimal : Within (47 ∷ r) (47 ∷ s) decimal
  slash_decimal = decimal_within (47 ∷ r) (47 ∷ s) refl refl

  slash_bind : {A B : Type 0} (g : Grammar A) (f : A → Grammar B) → Within (47 ∷ r) (47 ∷ s) g → ((a : A) → Within (47 ∷ r) (47 ∷ s) (f a)) →
      Within (47 ∷ r) (47 ∷ s) (g >>= f)
  slash_bind = bind_within (47 ∷ r) (47 ∷ s)

  -- a fixed text, and then what is read alike
  then_within : {A B : Type 0} (o p : Option (A × List ℕ)) (g : Grammar B) → Alike (47 ∷ r) (47 ∷ s) o p → Within (47 ∷ r) (47 ∷ s) g →
      Alike (47 ∷ r) (47 ∷ s) (option_and_then (λ x. g.read x.1) o) (option_and_then (λ x. g.read x.1) p)
  then_within o p g h G = elim h [
    | inl n ↦ inl (rw n.0 refl, rw n.1 refl)
    | inr t ↦ rw (t.2, t.3) (G.alike t.1)
  ]

  subrs_behind : Behind (47 ∷ r) (47 ∷ s) subrs_marker
  unfolding subrs_marker
  subrs_behind b xs =
      then_within _ _ _ (fixed_behind (47 ∷ r) (47 ∷ s) 47 (codes "Subrs") (slash_word (codes "Subrs") r refl) (slash_word (codes "Subrs") s refl) b xs)
      (slash_bind _ _ slash_gap (λ _. slash_bind _ _ slash_decimal (λ declared. slash_bind _ _ slash_gap (λ _. slash_bind _ _ (slash_keyword (codes "array"))
      (λ _. slash_bind _ _ (before_within (47 ∷ r) (47 ∷ s) white_comes (λ b bs cs. refl) refl) (λ _. pure_within (47 ∷ r) (47 ∷ s) declared))))))

  chars_behind : Behind (47 ∷ r) (47 ∷ s) chars_marker
  unfolding chars_marker
  chars_behind b xs =
      then_within _ _ _ (fixed_behind (47 ∷ r) (47 ∷ s) 47 (codes "CharStrings")
      (slash_word (codes "CharStrings") r refl) (slash_word (codes "CharStrings") s refl) b xs)
      (slash_bind _ _ slash_gap (λ _. slash_bind _ _ slash_decimal (λ declared. slash_bind _ _ slash_gap (λ _. slash_bind _ _
      (slash_keyword (codes "dict")) (λ _. slash_bind _ _ slash_gap (λ _. slash_bind _ _ (slash_keyword (codes "dup")) (λ _. slash_bind _ _ slash_gap
      (λ _. slash_bind _ _ (slash_keyword (codes "begin")) (λ _. before_within (47 ∷ r) (47 ∷ s) white_comes (λ b bs cs. refl) refl)))))))))

  encoding_behind : Behind (47 ∷ r) (47 ∷ s) encoding_marker
  unfolding encoding_marker
  encoding_behind b xs =
      then_within _ _ _ (fixed_behind (47 ∷ r) (47 ∷ s) 47 (codes "Encoding")
      (slash_word (codes "Encoding") r refl) (slash_word (codes "Encoding") s refl) b xs)
      (before_within (47 ∷ r) (47 ∷ s) break_comes (λ b bs cs. refl) refl)

-- the end of the clear text, before two texts that begin with no white space and no letter of it
pub eexec_within : (u v : List ℕ) → Stops is_white u → Stops is_white v → Foreign (codes "currentfile") u → Foreign (codes "currentfile") v →
    Foreign (codes "eexec") u → Foreign (codes "eexec") v → blank_comes u ≡ blank_comes v → Within u v eexec_marker
unfolding eexec_marker
eexec_within u v s t a b c d e = bind_within u v _ _ (fixed_within u v (codes "currentfile") a b)
    (λ currentfile. bind_within u v _ _ (gap_within u v s t) (λ between. bind_within u v _ _ (fixed_within u v (codes "eexec") c d)
    (λ eexec. bind_within u v _ _ (before_within u v blank_comes (λ b bs cs. refl) e) (λ _. pure_within u v (currentfile ++ between ++ eexec)))))

-- where no marker of Subrs stands before one slash, none does before another
pub subrs_moves : (front r s : List ℕ) → NoneIn subrs_marker front (47 ∷ r) → NoneIn subrs_marker front (47 ∷ s)
subrs_moves front r s = none_moves (47 ∷ r) (47 ∷ s) subrs_marker (subrs_behind r s) front

-- where no marker of CharStrings stands before one slash, none does before another
pub chars_moves : (front r s : List ℕ) → NoneIn chars_marker front (47 ∷ r) → NoneIn chars_marker front (47 ∷ s)
chars_moves front r s = none_moves (47 ∷ r) (47 ∷ s) chars_marker (chars_behind r s) front

-- where no marker of the Encoding stands before one slash, none does before another
pub encoding_moves : (front r s : List ℕ) → NoneIn encoding_marker front (47 ∷ r) → NoneIn encoding_marker front (47 ∷ s)
encoding_moves front r s = none_moves (47 ∷ r) (47 ∷ s) encoding_marker (encoding_behind r s) front

-- where no marker of eexec stands before one slash, none does before another
pub eexec_moves : (front r s : List ℕ) → NoneIn eexec_marker front (47 ∷ r) → NoneIn eexec_marker front (47 ∷ s)
eexec_moves front r s = none_moves (47 ∷ r) (47 ∷ s) eexec_marker (behind (47 ∷ r) (47 ∷ s) eexec_marker (eexec_within (47 ∷ r) (47 ∷ s) refl refl
    (slash_word (codes "currentfile") r refl) (slash_word (codes "currentfile") s refl)
    (slash_word (codes "eexec") r refl) (slash_word (codes "eexec") s refl) refl)) front

-- ---- the first place, in a text that is followed by more

nil_alike : {A : Type 0} (v xs : List ℕ) (o p : Option (A × List ℕ)) → Alike [] v o p →
    ((o ≡ None) × (p ≡ None)) ⊎ ((a : A) × (ys : List ℕ) × (o ≡ Some (a, ys)) × (p ≡ Some (a, ys ++ v)))
nil_alike v xs o p (inl n) = inl n
nil_alike v xs o p (inr s) = inr (s.0, s.1, s.2 ∙ ap (λ (u : List ℕ). Some (s.0, u)) (append-nil s.1), s.3)

-- what is read of a text, or not, stays so with v behind it
pub grows : {A : Type 0} (g : Grammar A) (v : List ℕ) → Within [] v g → (xs : List ℕ) →
    ((g.read xs ≡ None) × (g.read (xs ++ v) ≡ None)) ⊎ ((a : A) × (ys : List ℕ) × (g.read xs ≡ Some (a, ys)) × (g.read (xs ++ v) ≡ Some (a, ys ++ v)))
grows g v G xs = nil_alike v xs (g.read xs) (g.read (xs ++ v)) (subst (λ (u : List ℕ). Alike [] v (g.read u) (g.read (xs ++ v))) (append-nil xs) (G.alike xs))

abbrev with_byte : {A : Type 0} → ℕ → Option ((List ℕ × A) × List ℕ) → Option ((List ℕ × A) × List ℕ)
with_byte b o = option_and_then (λ y. Some ((b ∷ y.0.0, y.0.1), y.1)) o

found_grows : {A : Type 0} (b : ℕ) (v : List ℕ) (o p : Option ((List ℕ × A) × List ℕ)) → (x : (List ℕ × A) × List ℕ) →
    ((y : (List ℕ × A) × List ℕ) → o ≡ Some y → p ≡ Some (y.0, y.1 ++ v))
    → with_byte b o ≡ Some x → with_byte b p ≡ Some (x.0, x.1 ++ v)
found_grows b v None p x h e = absurd (none-some x e)
found_grows b v (Some y) p x h e = rw (h y refl) (ap (λ (z : (List ℕ × _) × List ℕ). Some (z.0, z.1 ++ v)) (same_Some ((b ∷ y.0.0, y.0.1), y.1) x e))

-- the first marker of a text is the first of the text and what stands behind it
pub first_grows : {A : Type 0} (g : Grammar A) (v : List ℕ) → Within [] v g → (xs : List ℕ) (x : (List ℕ × A) × List ℕ) → first_at g xs ≡ Some x →
    first_at g (xs ++ v) ≡ Some (x.0, x.1 ++ v)
unfolding first_at
first_grows g v G [] x e = elim (grows g v G []) [
  | inl n ↦ let k : ◌≡◌ {A = Option ((List ℕ × _) × List ℕ)} None (Some x) = rw n.0 at e in absurd (none-some x k)
  | inr s ↦ let k : ◌≡◌ {A = Option ((List ℕ × _) × List ℕ)} (Some (([], s.0), s.1)) (Some x) = rw s.2 at e in
      first_here g v s.0 (s.1 ++ v) s.3 ∙ ap (λ (z : (List ℕ × _) × List ℕ). Some (z.0, z.1 ++ v)) (same_Some (([], s.0), s.1) x k)
]
first_grows g v G (b ∷ xs) x e = elim (grows g v G (b ∷ xs)) [
  | inl n ↦ rw n.1 (found_grows b v (first_at g xs) (first_at g (xs ++ v)) x (first_grows g v G xs) (rw n.0 at e))
  | inr s ↦ let k : ◌≡◌ {A = Option ((List ℕ × _) × List ℕ)} (Some (([], s.0), s.1)) (Some x) = rw s.2 at e in
      first_here g (b ∷ (xs ++ v)) s.0 (s.1 ++ v) s.3 ∙ ap (λ (z : (List ℕ × _) × List ℕ). Some (z.0, z.1 ++ v)) (same_Some (([], s.0), s.1) x k)
]

-- ---- a text in which no marker stands, before one with markers

-- a marker that stands in neither of two texts doesn't stand in both, joined
pub NoneIn-append : {A : Type 0} (g : Grammar A) (xs ys after : List ℕ) → NoneIn g xs (ys ++ after) → NoneIn g ys after → NoneIn g (xs ++ ys) after
NoneIn-append g [] ys after h k = k
NoneIn-append g (b ∷ xs) ys after h k = (subst (λ (u : List ℕ). NotAtFront g (b ∷ u)) (sym (append_assoc xs ys after)) h.0, NoneIn-append g xs ys after h.1 k)

-- a grammar that stands nowhere in the front is sought behind it
pub past_none : {A : Type 0} (g : Grammar A) → (front after : List ℕ) → NoneIn g front after → first_at g (front ++ after) ≡ prepend front (first_at g after)
past_none g [] after h = prepend-nil (first_at g after)
past_none g (b ∷ front) after h =
    one_place g b (front ++ after) (unread g (b ∷ (front ++ after)) h.0)
    ∙ (ap (prepend (b ∷ [])) (past_none g front after h.1) ∙ prepend-prepend b front (first_at g after))

-- a marker stands first where it is read behind a text without one
pub first_behind : {A : Type 0} (g : Grammar A) → (front after : List ℕ) (a : A) (rest : List ℕ) → NoneIn g front after →
    g.read after ≡ Some (a, rest) → first_at g (front ++ after) ≡ Some ((front, a), rest)
first_behind g front after a rest h e =
    past_none g front after h ∙ (ap (prepend front) (first_here g after a rest e) ∙ ap (λ (f : List ℕ). Some ((f, a), rest)) (append-nil front))
