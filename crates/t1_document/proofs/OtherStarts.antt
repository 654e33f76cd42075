-- Another start of the pool's names, which has as many colons or more: what entries there are doesn't hang on how many.
use Rattle.std.proofs.Common.{◌≡◌, ℕ, ◌+◌, ◌-◌, ◌≤◌, zero, suc, Bool, true, false, cond, refl, sym, ◌∙◌, ap, List, [], ◌∷◌}
use Rattle.std.proofs.Common.{◌++◌, map, length, replicate, inl, inr, Option, Some, None, is_some, append_assoc, arith}
use Rattle.std.proofs.{lemmas.Bool.{cases_Bool, cases_lt, true≢false, and_parts}, lemmas.List.{drop_at}, lemmas.Slice.Eq.{bytes_eq-Decides}}
use Rattle.std.specs.{Prelude.{◌&&◌, ◌||◌, not, codes}, List.{AllByRecursion, list_all}, Option.{option_and_then, option_map}}
use Rattle.t1_grammar.specs.{Grammar.{fixed}, Places.{occurs, absent_lacks}}
use Rattle.t1_text.specs.Words.{regular_comes}
use Rattle.t1_font.proofs.canonical.EntriesWritten.{fixed_read}
use Rattle.t1_document.specs.{declared.marks.Mark.{Mark}, Lines.{is_line_end, into_first, lines_of, breaks}, Marks.{has_mark}, Fonts.{FontText, font_in, spelled_name}}
use Rattle.t1_document.specs.{Documents.{Place}, Rewriting.{can_give}}
use Rattle.t1_document.specs.Pooling.{own_start, start_from, free_start, line_end, place_line, behind_text, leaves, is_so, clashes}
use Rattle.t1_document.specs.Pooling.{named_by, if_clear, entry_name, takes_line, entry_named, entry_for, entry_leaving, entry_of}
use Rattle.t1_document.proofs.{StretchLemmas.{any_mark}, Breaks.{breaks-behind, begun}, FontLemmas.{font_stands}, Bare.{bare}, DefiningLines.{regular_both}, EntryParts.{font_named}}
use Rattle.t1_document.proofs.RegularNames.{IsRegular, IsNamed, no_end, not_closed, regular_ends, no_end-append, slash_no_mark}

-- ---- colons

-- a word stands where it was put
pub put_there : (w front behind : List ℕ) → occurs (fixed w) (front ++ (w ++ behind)) ≡ true
put_there w front behind = elim (cases_Bool (occurs (fixed w) (front ++ (w ++ behind)))) [
  | inl e ↦ e
  | inr e ↦
      absurd (absent_lacks (fixed w) (front ++ (w ++ behind)) e (length front) (w, behind)
      (w, drop_at front (w ++ behind) (length front) refl, ((refl, refl), (bytes_eq-Decides w w).1 refl)))
]

more_colons : (i j : ℕ) → replicate {A = ℕ} (i + j) 58 ≡ replicate i 58 ++ replicate j 58
more_colons zero j = ap (λ (n : ℕ). replicate {A = ℕ} n 58) none
  where
    none : 0 + j ≡ j
    none = omega arith
more_colons (suc i) j = ap (λ (n : ℕ). replicate {A = ℕ} n 58) one ∙ ap (λ (t : List ℕ). 58 ∷ t) (more_colons i j)
  where
    one : suc i + j ≡ suc (i + j)
    one = omega arith

-- a start is one with fewer colons, and more of them
pub start_more : (i n : ℕ) → i ≤ n → own_start n ≡ own_start i ++ replicate (n - i) 58
start_more i n le =
    ap (λ (t : List ℕ). codes "/pool" ++ t) (ap (λ (m : ℕ). replicate {A = ℕ} m 58) sum ∙ more_colons i (n - i))
    ∙ sym (append_assoc (codes "/pool") (replicate i 58) (replicate (n - i) 58))
  where
    sum : n ≡ i + (n - i)
    sum = omega (arith, le)

-- the start that is found has so many colons
pub start_is : (more n : ℕ) (text : List ℕ) → (m : ℕ) × (start_from more n text ≡ own_start m)
unfolding start_from
start_is zero n text = (n, refl)
start_is (suc more) n text = by_free (occurs (fixed (own_start n)) text) (start_is more (suc n) text)
  where
    by_free : (b : Bool) → (m : ℕ) × (start_from more (suc n) text ≡ own_start m) →
        (m : ℕ) × (cond b (start_from more (suc n) text) (own_start n) ≡ own_start m)
    by_free true h = h
    by_free false h = (n, refl)

-- where one with n colons stands in a text, so do those with fewer
fewer_there : (text front behind : List ℕ) (n : ℕ) → text ≡ front ++ (own_start n ++ behind) → (i : ℕ) → i ≤ n → occurs (fixed (own_start i)) text ≡ true
fewer_there text front behind n e i le =
    ap (occurs (fixed (own_start i))) (e
    ∙ ap (λ (t : List ℕ). front ++ t) (ap (λ (t : List ℕ). t ++ behind) (start_more i n le) ∙ append_assoc (own_start i) (replicate (n - i) 58) behind))
    ∙ put_there (own_start i) front (replicate (n - i) 58 ++ behind)

-- so the start that is found has no fewer
no_fewer : (text : List ℕ) (n : ℕ) → ((i : ℕ) → i ≤ n → occurs (fixed (own_start i)) text ≡ true) → (more j : ℕ) → n ≤ j + more →
    (m : ℕ) × (start_from more j text ≡ own_start m) × (n ≤ m)
unfolding start_from
no_fewer text n all zero j le = (j, refl, omega (arith, le))
no_fewer text n all (suc more) j le = by_there (occurs (fixed (own_start j)) text) refl (no_fewer text n all more (suc j) (omega (arith, le)))
  where
    by_there : (b : Bool) → occurs (fixed (own_start j)) text ≡ b → (m : ℕ) × (start_from more (suc j) text ≡ own_start m) × (n ≤ m) →
        (m : ℕ) × (cond b (start_from more (suc j) text) (own_start j) ≡ own_start m) × (n ≤ m)
    by_there true e later = later
    by_there false e later = (
      j,
      refl,
      elim (cases_lt j n) [
        | inl h ↦ absurd (true≢false (sym (all j (omega (arith, h))) ∙ e))
        | inr h ↦ omega (arith, h)
      ],
    )

-- the start of a text in which one with n colons stands has no fewer
pub free_has_more : (text front behind : List ℕ) (n : ℕ) → text ≡ front ++ (own_start n ++ behind) → n ≤ length text →
    (m : ℕ) × (free_start text ≡ own_start m) × (n ≤ m)
free_has_more text front behind n e le = no_fewer text n (fewer_there text front behind n e) (length text) 1 (omega (arith, le))

-- a name that doesn't clash with the one doesn't clash with the other
pub clear_more : (n m : ℕ) → n ≤ m → (name : List ℕ) → clashes (own_start n) name ≡ false → clashes (own_start m) name ≡ false
clear_more n m le name clear = by_read ((fixed (own_start m)).read (47 ∷ name)) refl
  where
    by_read : (o : Option (List ℕ × List ℕ)) → (fixed (own_start m)).read (47 ∷ name) ≡ o → is_some o ≡ false
    by_read None e = refl
    by_read (Some x) e =
        let whole : 47 ∷ name ≡ own_start n ++ (replicate (m - n) 58 ++ x.1) =
        begun (own_start m) (47 ∷ name) x e
        ∙ (ap (λ (t : List ℕ). t ++ x.1) (start_more n m le) ∙ append_assoc (own_start n) (replicate (m - n) 58) x.1) in
        absurd (true≢false (sym (ap is_some (ap (fixed (own_start n)).read whole ∙ fixed_read (own_start n) (replicate (m - n) 58 ++ x.1))) ∙ clear))

-- ---- lines

-- some line but the first is a mark
abbrev behind_marks : List (List ℕ) → Bool
behind_marks [] = false
behind_marks (l ∷ ls) = any_mark ls

into_marks : (b : ℕ) (ls : List (List ℕ)) → behind_marks (into_first b ls) ≡ behind_marks ls
into_marks b [] = refl
into_marks b (l ∷ ls) = refl

marks_behind : (u rest : List ℕ) → no_end u ≡ true → behind_marks (lines_of (u ++ rest)) ≡ behind_marks (lines_of rest)
unfolding lines_of
marks_behind [] rest h = refl
marks_behind (b ∷ u) rest h =
    let parts = and_parts (not (is_line_end b)) (no_end u) h in
    let ls = lines_of (u ++ rest) in
    ap (λ (t : Bool). behind_marks (cond t ((b ∷ []) ∷ ls) (into_first b ls))) (not_closed b parts.0 (u ++ rest))
    ∙ (into_marks b ls ∙ marks_behind u rest parts.1)

slash_marks : (ls : List (List ℕ)) → any_mark (into_first 47 ls) ≡ behind_marks ls
slash_marks [] = ap (λ (m : Option Mark). is_some m || false) (slash_no_mark [])
slash_marks (l ∷ ls) = ap (λ (m : Option Mark). is_some m || any_mark ls) (slash_no_mark l)

lines_give : (u y : List ℕ) → no_end u ≡ true →
    can_give ((47 ∷ u) ++ 32 ∷ y) ≡ (breaks (32 ∷ y) (codes "%") && not (behind_marks (lines_of (32 ∷ y))))
unfolding lines_of
lines_give u y h =
    ap (λ (b : Bool). b && not (has_mark ((47 ∷ u) ++ 32 ∷ y))) (breaks-behind (47 ∷ u) 32 y (codes "%"))
    ∙ ap (λ (b : Bool). breaks (32 ∷ y) (codes "%") && not b) (slash_marks (lines_of (u ++ 32 ∷ y)) ∙ marks_behind u (32 ∷ y) h)

-- the bytes of a line, and those behind it, apart
line_apart : (n sp s k w end rest : List ℕ) → ((n ++ (sp ++ ((s ++ k) ++ w))) ++ end) ++ rest ≡ (n ++ (sp ++ (s ++ k))) ++ (w ++ (end ++ rest))
line_apart n sp s k w end rest = simp append_assoc

line_gives : (own end name key rest : List ℕ) → IsRegular own → IsRegular name → IsRegular key →
    can_give (place_line (47 ∷ own) end name key ++ rest)
    ≡ (breaks (codes " findfont definefont pop" ++ (end ++ rest)) (codes "%")
    && not (behind_marks (lines_of (codes " findfont definefont pop" ++ (end ++ rest)))))
line_gives own end name key rest o n k =
    ap can_give (line_apart (47 ∷ name) (codes " ") (47 ∷ own) key (codes " findfont definefont pop") end rest)
    ∙ lines_give (name ++ (32 ∷ ((47 ∷ own) ++ key))) (codes "findfont definefont pop" ++ (end ++ rest))
    (no_end-append name (32 ∷ ((47 ∷ own) ++ key)) (regular_ends name n) (regular_ends (own ++ key) (regular_both own key o k)))

-- ---- entries

module _ (own other key : List ℕ) (o : IsRegular own) (t : IsRegular other) (k : IsRegular key) where
  takes_same : (answers : Bool) (p : Place) → IsNamed p → takes_line (47 ∷ own) key answers p ≡ takes_line (47 ∷ other) key answers p
  takes_same answers p n =
      ap (λ (b : Bool). is_so answers (leaves p.text) && not (regular_comes p.rest) && b)
      (line_gives own (line_end answers) p.name key p.rest o n k ∙ sym (line_gives other (line_end answers) p.name key p.rest t n k))

  all_take : (answers : Bool) (ps : List Place) → AllByRecursion IsNamed ps →
      list_all (takes_line (47 ∷ own) key answers) ps ≡ list_all (takes_line (47 ∷ other) key answers) ps
  all_take answers [] n = refl
  all_take answers (p ∷ ps) n = λ i. takes_same answers p n.0 i && all_take answers ps n.1 i

  -- the name of a text clashes with neither
  abbrev pub IsClear : List ℕ → Type 0
  IsClear text = (name : List ℕ) → spelled_name text ≡ Some name → (clashes (47 ∷ own) name ≡ false) × (clashes (47 ∷ other) name ≡ false)

  name_same : (text rest : List ℕ) → IsClear text → entry_name (47 ∷ own) text rest ≡ entry_name (47 ∷ other) text rest
  name_same text rest clear =
      ap (λ (x : Option (List ℕ)). cond (has_mark (text ++ rest)) None x) (by_name (named_by text rest (font_in (text ++ rest))) refl)
    where
      by_name : (n : Option (List ℕ)) → named_by text rest (font_in (text ++ rest)) ≡ n →
          option_and_then (if_clear (47 ∷ own)) n ≡ option_and_then (if_clear (47 ∷ other)) n
      by_name None e = refl
      by_name (Some n) e =
          let f : FontText = record { name = n; text = text; rest = rest } in
          let c = clear n (font_stands (text ++ rest) f (font_named text rest n (font_in (text ++ rest)) e)).name in
          ap (λ (b : Bool). cond b None (Some n)) (c.0 ∙ sym c.1)

  for_same : (text : List ℕ) (answers : Bool) (ps : List Place) → AllByRecursion IsNamed ps → IsClear text →
      entry_for (47 ∷ own) key text answers ps ≡ entry_for (47 ∷ other) key text answers ps
  for_same text answers ps n c = λ i.
      cond (is_so answers (leaves text) && all_take answers ps n i) (option_map (entry_named text answers) (name_same text (behind_text answers) c i)) None

  -- the entry is the same
  pub entry_same : (text : Option (List ℕ)) (ps : List Place) → AllByRecursion IsNamed ps → ((u : List ℕ) → text ≡ Some u → IsClear u) →
      entry_of (47 ∷ own) key text ps ≡ entry_of (47 ∷ other) key text ps
  entry_same None ps n c = refl
  entry_same (Some u) [] n c = refl
  entry_same (Some u) (p ∷ []) n c = refl
  entry_same (Some u) (p ∷ q ∷ ps) n c = by_left (leaves p.text)
    where
      by_left : (l : Option Bool) → entry_leaving (47 ∷ own) key u l (p ∷ q ∷ ps) ≡ entry_leaving (47 ∷ other) key u l (p ∷ q ∷ ps)
      by_left None = refl
      by_left (Some answers) = for_same u answers (p ∷ q ∷ ps) n (c u refl)

-- nor does it hang on the bytes before places
module _ (start key : List ℕ) where
  takes_bare : (answers : Bool) (ps : List Place) → list_all (takes_line start key answers) (map bare ps) ≡ list_all (takes_line start key answers) ps
  takes_bare answers [] = refl
  takes_bare answers (p ∷ ps) = ap (λ (b : Bool). takes_line start key answers p && b) (takes_bare answers ps)

  pub entry_bare : (text : Option (List ℕ)) (ps : List Place) → entry_of start key text (map bare ps) ≡ entry_of start key text ps
  entry_bare None ps = refl
  entry_bare (Some u) [] = refl
  entry_bare (Some u) (p ∷ []) = refl
  entry_bare (Some u) (p ∷ q ∷ ps) = by_left (leaves p.text)
    where
      by_left : (l : Option Bool) → entry_leaving start key u l (map bare (p ∷ q ∷ ps)) ≡ entry_leaving start key u l (p ∷ q ∷ ps)
      by_left None = refl
      by_left (Some answers) =
          ap (λ (b : Bool). cond (is_so answers (leaves u) && b) (option_map (entry_named u answers) (entry_name start u (behind_text answers))) None)
          (takes_bare answers (p ∷ q ∷ ps))
