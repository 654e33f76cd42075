-- A head without its test has none, and is the head of a font.
use Rattle.std.proofs.Common.{◌≡◌, suc, ◌≤◌, arith, List, [], ◌∷◌, ◌++◌, length, take, drop, Option, Some, None, is_some, Bool, true, false, cond, inl, inr, refl, sym, ap, subst, ◌∙◌, append_assoc}
use Rattle.std.proofs.{Common.{true≢false}, lemmas.List.{append-nil, length-append, length-drop}, lemmas.Bool.{cases_Bool, eqb-true}, lemmas.Slice.Eq.{bytes_eq-Decides}}
use Rattle.std.specs.Prelude.{ℕ, ◌&&◌, ◌||◌, ◌==◌, not, codes}
use Rattle.t1_grammar.specs.{Grammar.{Grammar, NoneIn, Lacks, first}, Places.{occurs, absent_lacks}}
use Rattle.t1_bytes.specs.{FlatText.{starts_segment}, Laws.{AreBytes}, Eexec.{eexec_marker}}
use Rattle.t1_text.specs.{Markers.{encoding_marker}, FontWords.{NoMarker}, Words.{is_regular, regular_comes}}
use Rattle.t1_text.specs.FontTest.{ends_before, token, test_tokens, then_save, known_name, font_test, apart_test, found_test, around, eexec_there, has_marker, is_untested, tested_head, untested}
use Rattle.t1_text.specs.FontTest.{UntestedTwice, UntestedStarts}
use Rattle.t1_text.proofs.Bytes.{AreBytes-append, bytes_left, bytes_right, drop_bytes}

-- ---- what a head without a test is

-- where both hold, each does
pub both_true : (a b : Bool) → (a && b) ≡ true → (a ≡ true) × (b ≡ true)
both_true true b h = (refl, h)
both_true false b h = absurd (true≢false (sym h))

-- what is denied is false
pub not_true : (a : Bool) → not a ≡ true → a ≡ false
not_true true h = absurd (true≢false (sym h))
not_true false h = refl

-- where not one of two holds, neither does
pub neither : (a b : Bool) → (a || b) ≡ false → (a ≡ false) × (b ≡ false)
neither true b h = absurd (true≢false h)
neither false b h = (refl, h)

-- what isn't something is nothing
none_there : {A : Type 0} (o : Option A) → is_some o ≡ false → o ≡ None
none_there None h = refl
none_there (Some x) h = absurd (true≢false h)

-- a grammar that stands nowhere in a text stands nowhere in its front
pub lacks_none : {A : Type 0} (g : Grammar A) (front after : List ℕ) → Lacks g (front ++ after) → NoneIn g front after
lacks_none g [] after lacks = tt
lacks_none g (b ∷ front) after lacks = (lacks 0, lacks_none g front after (λ k. lacks (suc k)))

-- where no marker of any bytes stands, no marker stands
pub no_eexec : (bytes : List ℕ) → Lacks eexec_there bytes → Lacks eexec_marker bytes
unfolding eexec_there
no_eexec bytes lacks k x at = lacks k (tt, x.1)
    (at.0 ++ [], at.1 ∙ ap (λ (u : List ℕ). u ++ x.1) (sym (append-nil at.0)), (x.0, at.0, [], refl, at.2, (refl, refl)))

-- no test and no marker stands in it
pub record IsUntested (text : List ℕ) : Type 0 where
  pub no_test : found_test text ≡ None
  pub no_encoding : NoMarker encoding_marker text
  pub no_eexec : NoMarker eexec_marker text

-- that is what the test of a text says
pub untested_so : (text : List ℕ) → is_untested text ≡ true → IsUntested text
untested_so text h =
    let slashed : List ℕ = text ++ 47 ∷ [] in
    let both = both_true (not (is_some (found_test text))) (not (has_marker slashed)) h in
    let markers = neither (occurs encoding_marker slashed) (occurs eexec_there slashed) (not_true (has_marker slashed) both.1) in
    record {
      no_test = none_there (found_test text) (not_true (is_some (found_test text)) both.0);
      no_encoding = lacks_none encoding_marker text (47 ∷ []) (absent_lacks encoding_marker slashed markers.0);
      no_eexec = lacks_none eexec_marker text (47 ∷ []) (no_eexec slashed (absent_lacks eexec_there slashed markers.1));
    }

-- ---- twice

-- where no test is found, the head stays
pub stays_untested : (head : List ℕ) → found_test head ≡ None → untested head ≡ head
stays_untested head e = ap (tested_head head) e

-- a head without its test has none to lose
pub untested_twice : UntestedTwice
untested_twice head = by_found (found_test head) refl
  where
    by_test : (x : (List ℕ × List ℕ) × List ℕ) → found_test head ≡ Some x → (b : Bool) → is_untested (around x) ≡ b →
        untested (cond b (around x) head) ≡ cond b (around x) head
    by_test x e true t = stays_untested (around x) (untested_so (around x) t).no_test
    by_test x e false t = ap (tested_head head) e ∙ ap (λ (b : Bool). cond b (around x) head) t

    by_found : (o : Option ((List ℕ × List ℕ) × List ℕ)) → found_test head ≡ o → untested (tested_head head o) ≡ tested_head head o
    by_found None e = stays_untested head e
    by_found (Some x) e = by_test x e (is_untested (around x)) refl

-- ---- what stands around a test

-- a head in parts: what stands before a test, the byte that keeps it apart, and what stands behind it
pub record Around (head : List ℕ) (x : (List ℕ × List ℕ) × List ℕ) : Type 0 where
  pub text : List ℕ
  pub break : ℕ
  pub one : x.0.1 ≡ break ∷ []
  pub whole : 10 ∷ head ≡ x.0.0 ++ (break ∷ (text ++ x.1))
  pub test : font_test.Spells tt text x.1

-- a text of one byte is that byte
one_byte : (xs : List ℕ) → length xs ≡ 1 → (b : ℕ) × (xs ≡ b ∷ [])
one_byte [] h = absurd (omega (arith, h))
one_byte (b ∷ []) h = (b, refl)
one_byte (b ∷ c ∷ xs) h = absurd (omega (arith, h))

-- a test that is found in a head parts it so
pub around_found : (head : List ℕ) (x : (List ℕ × List ℕ) × List ℕ) → found_test head ≡ Some x → Around head x
unfolding apart_test
around_found head x e =
    let s = (first apart_test).takes (10 ∷ head) x e in
    let own = s.2.0 in
    let m = s.2.2 in
    let t = m.5 in
    let value : m.0 ≡ x.0.1 = t.5.1 in
    let b = one_byte m.0 m.4.0.1 in
    let break : m.1 ≡ b.0 ∷ [] = m.4.0.0 ∙ b.1 in
    let test : t.1 ++ t.2 ≡ t.1 = ap (λ (u : List ℕ). t.1 ++ u) t.5.0 ∙ append-nil t.1 in
    let is : own ≡ b.0 ∷ t.1 = m.3 ∙ (ap (λ (u : List ℕ). u ++ m.2) break ∙ ap (λ (u : List ℕ). b.0 ∷ u) (t.3 ∙ test)) in
    record {
      text = t.1;
      break = b.0;
      one = sym value ∙ b.1;
      whole = s.1 ∙ (ap (λ (u : List ℕ). u ++ x.1) (s.2.1 ∙ ap (λ (u : List ℕ). x.0.0 ++ u) is) ∙ append_assoc x.0.0 (b.0 ∷ t.1) x.1);
      test = subst (λ (u : List ℕ). font_test.Spells tt t.1 (u ++ x.1)) t.5.0 t.4;
    }

-- ---- the head of a font

-- what a head keeps
pub record HeadFits (old new : List ℕ) : Type 0 where
  pub encoding : NoMarker encoding_marker old → NoMarker encoding_marker new
  pub eexec : NoMarker eexec_marker old → NoMarker eexec_marker new
  pub bytes : AreBytes old → AreBytes new
  pub short : length new ≤ length old

-- a head without its test is no longer, is bytes, and has no markers
pub untested_fits : (head : List ℕ) → HeadFits head (untested head)
untested_fits head = by_found (found_test head) refl
  where
    stays : HeadFits head head
    stays = record { encoding = λ h. h; eexec = λ h. h; bytes = λ h. h; short = omega arith }

    left : (x : (List ℕ × List ℕ) × List ℕ) → Around head x → IsUntested (around x) → HeadFits head (around x)
    left x a u = record {
      encoding = λ h. u.no_encoding;
      eexec = λ h. u.no_eexec;
      bytes = λ h.
          let all : AreBytes (x.0.0 ++ (a.break ∷ (a.text ++ x.1))) = subst AreBytes a.whole (omega arith, h) in
          let back : AreBytes (a.break ∷ (a.text ++ x.1)) = bytes_right x.0.0 (a.break ∷ (a.text ++ x.1)) all in
          drop_bytes 1 (x.0.0 ++ (x.0.1 ++ x.1)) (AreBytes-append x.0.0 (x.0.1 ++ x.1)
          (bytes_left x.0.0 (a.break ∷ (a.text ++ x.1)) all)
          (subst (λ (u : List ℕ). AreBytes (u ++ x.1)) (sym a.one) (back.0, bytes_right a.text x.1 back.1)));
      short = omega (
        arith,
        ap length a.whole,
        ap length a.one,
        length-append x.0.0 (a.break ∷ (a.text ++ x.1)),
        length-append a.text x.1,
        length-append x.0.0 (x.0.1 ++ x.1),
        length-append x.0.1 x.1,
        length-drop 1 (x.0.0 ++ (x.0.1 ++ x.1)),
      );
    }

    by_test : (x : (List ℕ × List ℕ) × List ℕ) → found_test head ≡ Some x → (b : Bool) → is_untested (around x) ≡ b → HeadFits head (cond b (around x) head)
    by_test x e true t = left x (around_found head x e) (untested_so (around x) t)
    by_test x e false t = stays

    by_found : (o : Option ((List ℕ × List ℕ) × List ℕ)) → found_test head ≡ o → HeadFits head (tested_head head o)
    by_found None e = stays
    by_found (Some x) e = by_test x e (is_untested (around x)) refl

-- ---- how it begins

-- behind the last of some tokens stands what it ends before
last_ends : (ws : List (List ℕ)) (w text rest : List ℕ) → (test_tokens (ws ++ w ∷ [])).Spells tt text rest → ends_before w rest ≡ true
unfolding token test_tokens
last_ends [] w text rest s = subst (λ (u : List ℕ). ends_before w (u ++ rest) ≡ true) s.5.0 s.4.5.5.1
last_ends (v ∷ ws) w text rest s = last_ends ws w s.2 rest s.5

-- no regular byte comes behind a test
none_behind : (text rest : List ℕ) → font_test.Spells tt text rest → regular_comes rest ≡ false
unfolding font_test
none_behind text rest s =
    let last = s.5.5.5 in
    not_true (regular_comes rest) (last_ends (take 12 then_save) (codes "ifelse") _ rest last)

-- byte 128 is regular
no_segment : (rest : List ℕ) → regular_comes rest ≡ false → starts_segment rest ≡ false
no_segment [] h = refl
no_segment (b ∷ bs) h = elim (cases_Bool (b == 128)) [
  | inl t ↦ absurd (true≢false (sym (ap is_regular (eqb-true b 128 t)) ∙ h))
  | inr t ↦ t
]

-- a test begins with an F
pub begins_test : (text rest : List ℕ) → font_test.Spells tt text rest → (u : List ℕ) × (text ≡ 70 ∷ u)
unfolding known_name font_test
begins_test text rest s =
    let n = s.4 in
    let word : n.1 ≡ codes "FontDirectory" = n.4.0.0 ∙ sym ((bytes_eq-Decides (codes "FontDirectory") n.0).0 n.4.1) in
    let name : s.1 ≡ codes "FontDirectory" ++ n.2 = n.3 ∙ ap (λ (u : List ℕ). u ++ n.2) word in
    (codes "ontDirectory" ++ (n.2 ++ s.2), s.3 ∙ ap (λ (u : List ℕ). u ++ s.2) name)

-- a head without its test begins with byte 128 exactly where the head does
pub untested_starts : UntestedStarts
untested_starts head = by_found (found_test head) refl
  where
    around_starts : (front b rest text : List ℕ) (break : ℕ) → b ≡ break ∷ [] → 10 ∷ head ≡ front ++ (break ∷ (text ++ rest)) →
        font_test.Spells tt text rest → starts_segment (drop 1 (front ++ (b ++ rest))) ≡ starts_segment head
    around_starts [] b rest text break one whole test =
        let f = begins_test text rest test in
        ap (λ (u : List ℕ). starts_segment (drop 1 (u ++ rest))) one
        ∙ (no_segment rest (none_behind text rest test)
        ∙ sym (ap starts_segment (ap (drop 1) whole ∙ ap (λ (u : List ℕ). u ++ rest) f.1)))
    around_starts (c ∷ []) b rest text break one whole test =
        ap (λ (u : List ℕ). starts_segment (u ++ rest)) one ∙ sym (ap (λ (u : List ℕ). starts_segment (drop 1 u)) whole)
    around_starts (c ∷ d ∷ front) b rest text break one whole test = sym (ap (λ (u : List ℕ). starts_segment (drop 1 u)) whole)

    by_test : (x : (List ℕ × List ℕ) × List ℕ) → found_test head ≡ Some x → (b : Bool) → starts_segment (cond b (around x) head) ≡ starts_segment head
    by_test x e true = let a = around_found head x e in around_starts x.0.0 x.0.1 x.1 a.text a.break a.one a.whole a.test
    by_test x e false = refl

    by_found : (o : Option ((List ℕ × List ℕ) × List ℕ)) → found_test head ≡ o → starts_segment (tested_head head o) ≡ starts_segment head
    by_found None e = refl
    by_found (Some x) e = by_test x e (is_untested (around x))
