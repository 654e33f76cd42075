-- What is known of the words and entries that were read of bytes.
use Rattle.std.proofs.Common.{◌+◌, zero, suc, inl, inr, ◌≡◌, ℕ, ◌≤◌, ◌<◌, Ordering, Bool, true, false, leb, cond, List, [], ◌∷◌, ◌++◌, length, Option, Some, None, refl, sym, subst, ◌∙◌, arith}
use Rattle.std.proofs.{lemmas.Bool.{leb-true, ltb-true, and_parts}, lemmas.List.{length-drop}}
use Rattle.std.specs.{Prelude.{codes, unwrap_or}, List.{AllByRecursion}, Ordering.{is_eq, nat_cmp}, FinSet.{nat_cmp-IsAntisymmetric}, Cmp.{IsTotalOrder, Equal-is}, FinMap.{get, IsAntisymmetric}}
use Rattle.t1_grammar.specs.Grammar.{Grammar, choice}
use Rattle.t1_bytes.{specs.{Laws.{AreBytes}, Cipher.{decrypted, plain_of}}, proofs.Ciphers.{length-decrypted}}
use Rattle.t1_text.specs.{declared.dialect.Spacing.{Spacing}, declared.dialect.Dialect.{Dialect}, declared.dialect.Spacing.TheVariants.{White}}
use Rattle.t1_text.specs.{Words.{word, name, phrase_of, phrase_after, is_access, passes, next_name}, Entry.{Body, Entry, length_from, body, entry, plain_entries}, Subrs.{Subr, subr_key, subr}}
use Rattle.t1_text.specs.Encoding.{code, CodeEntry, Put, Copy, put_entry, one_copy, within_codes, are_codes, copy_of_range, range_copy, name_after, copied, put_by, puts_after, entry_with}
use Rattle.t1_text.specs.{Encoding.{code_entry}, Glyphs.{Glyph, glyph}, Entries.{last_value, map_of}, FontWords.{IsWord, IsPhrase, IsCharstring}}
use Rattle.t1_font.specs.FontValue.{notdef}
use Rattle.t1_font.proofs.{MapLemmas.{Some_same, Some_None}, read_fonts.ReadBytes.{decrypted_bytes}}
use Rattle.t1_text.proofs.{Bytes.{AreBytes-append, parts_bytes, drop_bytes}, ReadBack.{whole_of}, MapLaws.{get-map_of}}
use Rattle.t1_font.proofs.canonical.EntriesWritten.{IsBody}
use Rattle.t1_join.proofs.OrderLemmas.{all_of_both}

-- ---- words

-- a word that bytes spell is a word of a font
pub word_of : (w text rest : List ℕ) → word.Spells w text rest → AreBytes text → IsWord 32 w
unfolding word
word_of w text rest s h =
    let both = and_parts (leb 1 (length w)) (leb (length w) 32) s.1 in
    record { regular = s.0.1; some = leb-true 1 (length w) both.0; few = leb-true (length w) 32 both.1; bytes = subst AreBytes s.0.0 h }

-- a name that bytes spell is a name of a font
pub name_of : (n text rest : List ℕ) → name.Spells n text rest → AreBytes text → IsWord 127 n
unfolding name
name_of n text rest s h =
    let both = and_parts (leb 1 (length n)) (leb (length n) 127) s.5.1 in
    record {
      regular = s.5.0.1;
      some = leb-true 1 (length n) both.0;
      few = leb-true (length n) 127 both.1;
      bytes = subst AreBytes s.5.0.0 (parts_bytes text s.1 s.2 s.3 h).1;
    }

-- the end of a phrase in bytes is bytes
after_bytes : (test : List ℕ → Bool) (access : Bool) (first p text rest : List ℕ) →
    (phrase_after test access first).Spells p text rest → AreBytes first → AreBytes text → AreBytes p
unfolding word
after_bytes test false first p text rest s f h = subst AreBytes s.1 f
after_bytes test true first p text rest s f h =
    let a = parts_bytes text s.0.1 s.0.2 s.0.3 h in
    let w = s.0.5 in
    let b = parts_bytes s.0.2 w.1 w.2 w.3 a.1 in
    let second : AreBytes w.0 = subst AreBytes w.4.0.0.0 b.0 in
    subst AreBytes w.5.1 (AreBytes-append (first ++ codes " ") w.0 (AreBytes-append first (codes " ") f (omega arith, tt)) second)

-- a phrase that bytes spell is a phrase of a font
pub phrase_is : (may_be_dup : Bool) (p text rest : List ℕ) → (phrase_of (passes may_be_dup)).Spells p text rest → AreBytes text → IsPhrase may_be_dup p
unfolding phrase_of word
phrase_is b p text rest s h =
    let a = parts_bytes text s.1 s.2 s.3 h in
    record { whole = whole_of (passes b) p text rest s; bytes = after_bytes (passes b) (is_access s.0) s.0 p s.2 rest s.5 (subst AreBytes s.4.0.0.0 a.0) a.1 }

-- ---- entries

-- what stands behind a key in bytes can be written, and is bytes
body_of : (iv : ℕ) (b : Body) (text rest : List ℕ) → (body iv).Spells b text rest → AreBytes text → IsBody iv b × AreBytes b.bytes
unfolding body length_from
body_of iv body text rest s h =
    let h1 = parts_bytes text s.1 s.2 s.3 h in
    let n = s.5 in
    let h2 = parts_bytes s.2 n.1 n.2 n.3 h1.1 in
    let h3 = parts_bytes n.2 n.5.1 n.5.2 n.5.3 h2.1 in
    let r = n.5.5 in
    let h4 = parts_bytes n.5.2 r.1 r.2 r.3 h3.1 in
    let h5 = parts_bytes r.2 r.5.1 r.5.2 r.5.3 h4.1 in
    let b = r.5.5 in
    let h6 = parts_bytes r.5.2 b.1 b.2 b.3 h5.1 in
    let h7 = parts_bytes b.2 b.5.1 b.5.2 b.5.3 h6.1 in
    let p = b.5.5 in
    let h8 = parts_bytes b.5.2 p.1 p.2 p.3 h7.1 in
    let size = and_parts (leb iv n.0) (leb n.0 65535) n.4.1 in
    subst (λ (x : Body). IsBody iv x × AreBytes x.bytes) p.5.1 (
      record {
        long = omega (arith, leb-true iv n.0 size.0, b.4.1);
        short = omega (arith, leb-true n.0 65535 size.1, b.4.1);
        rd = word_of r.0 r.1 _ r.4 h4.0;
        phrase = phrase_is true p.0 p.1 _ p.4 h8.0;
      },
      subst AreBytes b.4.0 h6.0,
    )

-- an entry that was read of bytes
abbrev pub IsRead : {K : Type 0} → (K → Type 0) → ℕ → Entry K → Type 0
IsRead IsKey iv e = IsKey e.key × IsBody iv e.body × AreBytes e.body.bytes

entry_of : {K : Type 0} (key : Grammar K) (IsKey : K → Type 0) → ((k : K) (text rest : List ℕ) → key.Spells k text rest → AreBytes text → IsKey k) →
    (iv : ℕ) (e : Entry K) (text rest : List ℕ) → (entry key iv).Spells e text rest → AreBytes text → IsRead IsKey iv e
unfolding entry
entry_of key IsKey key_is iv e text rest s h =
    let h1 = parts_bytes text s.1 s.2 s.3 h in
    let b = s.5 in
    let k = body_of iv b.0 b.1 _ b.4 (parts_bytes s.2 b.1 b.2 b.3 h1.1).0 in
    subst (IsRead IsKey iv) b.5.1 (key_is s.0 s.1 _ s.4 h1.0, k.0, k.1)

subr_key_of : (d : Spacing) (declared i : ℕ) (text rest : List ℕ) → (subr_key d declared).Spells i text rest → AreBytes text → i < declared
unfolding subr_key
subr_key_of d declared i text rest s h = ltb-true i declared s.5.5.5.1

-- a Subr that bytes spell is one of a font
pub subr_of : (d : Spacing) (declared iv : ℕ) (e : Subr) (text rest : List ℕ) → (subr d declared iv).Spells e text rest → AreBytes text →
    IsRead (λ i. i < declared) iv e
subr_of d declared = entry_of (subr_key d declared) (λ i. i < declared) (subr_key_of d declared)

-- a name behind white space that bytes spell is a name of a font
pub next_name_of : (d : Spacing) (n text rest : List ℕ) → (next_name d).Spells n text rest → AreBytes text → IsWord 127 n
unfolding next_name
next_name_of d n text rest s h = name_of n s.2 rest s.5 (parts_bytes text s.1 s.2 s.3 h).1

-- a glyph that bytes spell is one of a font
pub glyph_of : (iv : ℕ) (e : Glyph) (text rest : List ℕ) → (glyph iv).Spells e text rest → AreBytes text → IsRead (IsWord 127) iv e
glyph_of = entry_of (next_name White) (IsWord 127) (next_name_of White)

-- a put of a font: its code and its name
pub record IsReadPut (e : ℕ × List ℕ) : Type 0 where
  pub code : e.0 ≤ 255
  pub name : IsWord 127 e.1

-- so is a copy whose ranges are codes
abbrev pub IsReadEntry : CodeEntry → Type 0
IsReadEntry (Put c n) = IsReadPut (c, n)
IsReadEntry (Copy from count to) = (from + count ≤ 256) × (to + count ≤ 256)

-- a put that bytes spell is one of a font
put_of : (d : Spacing) (e : CodeEntry) (text rest : List ℕ) → (put_entry d).Spells e text rest → AreBytes text → IsReadEntry e
unfolding put_entry code
put_of d e text rest s h =
    let h1 = parts_bytes text s.1 s.2 s.3 h in
    let h2 = parts_bytes s.2 s.5.1 s.5.2 s.5.3 h1.1 in
    let h3 = parts_bytes s.5.2 s.5.5.1 s.5.5.2 s.5.5.3 h2.1 in
    let c = s.5.5.5 in
    let h4 = parts_bytes s.5.5.2 c.1 c.2 c.3 h3.1 in
    let h5 = parts_bytes c.2 c.5.1 c.5.2 c.5.3 h4.1 in
    let n = c.5.5 in
    let h6 = parts_bytes c.5.2 n.1 n.2 n.3 h5.1 in
    subst IsReadEntry n.5.5.5.1 (record { code = leb-true c.0 255 c.4.1; name = name_of n.0 n.1 _ n.4 h6.0 })

-- and so is each copy
one_copy_of : (d : Spacing) (e : CodeEntry) (text rest : List ℕ) → (one_copy d).Spells e text rest → IsReadEntry e
unfolding one_copy code
one_copy_of d e text rest s =
    let to = s.5 in
    let from = to.5.5.5.5 in
    let below = leb-true from.0 255 from.4.1 in
    let under = leb-true to.0 255 to.4.1 in
    subst IsReadEntry from.5.5.5.5.5.1 (omega (arith, below), omega (arith, under))

within_of : (e : CodeEntry) → ((c : ℕ) (n : List ℕ) → e ≡ Put c n → IsReadPut (c, n)) → within_codes e ≡ true → IsReadEntry e
within_of (Put c n) put h = put c n refl
within_of (Copy from count to) put h =
    let both = and_parts (are_codes from count) (are_codes to count) h in (leb-true (from + count) 256 both.0, leb-true (to + count) 256 both.1)

-- of a range, too
range_copy_of : (d : Spacing) (e : CodeEntry) (text rest : List ℕ) → (range_copy d).Spells e text rest → IsReadEntry e
unfolding copy_of_range
range_copy_of d e text rest s = within_of e (λ c n k. absurd (no_put c n (s.0.5.5.5.5.5.5.5.1 ∙ k))) s.1
  where
    no_put : {from count to : ℕ} (c : ℕ) (n : List ℕ) → Copy from count to ≡ Put c n → ⊥
    no_put c n k = cc

-- an entry that bytes spell is one of a font
pub code_entry_of : (d : Dialect) (e : CodeEntry) (text rest : List ℕ) → (code_entry d).Spells e text rest → AreBytes text → IsReadEntry e
code_entry_of d e text rest = by_copies d.copies
  where
    by_copies : (copies : Bool) → (entry_with copies d.encoding).Spells e text rest → AreBytes text → IsReadEntry e
    by_copies false s h = put_of d.encoding e text rest s h
    by_copies true (inl p) h = put_of d.encoding e text rest p h
    by_copies true (inr p) h = elim p.0 [ inl q ↦ one_copy_of d.encoding e text rest q | inr q ↦ range_copy_of d.encoding e text rest q.0 ]

-- what holds of each entry holds of the last value of a key
pub last_has : {K : Type 0} (R : K → K → Ordering) → IsAntisymmetric R → (P : K → List ℕ → Type 0) (es : List (K × List ℕ)) →
    AllByRecursion (λ e. P e.0 e.1) es → (q : K) (v : List ℕ) → last_value R q es ≡ Some v → P q v
last_has R same P [] all q v h = Some_None (sym h)
last_has R same P (e ∷ es) all q v h = by_rest (λ k. last_has R same P es all.1 q v k) (last_value R q es) refl h
  where
    by_key : (b : Bool) → is_eq (R q e.0) ≡ b → cond b (Some e.1) None ≡ Some v → P q v
    by_key true t k = subst (λ (x : List ℕ). P q x) (Some_same k) (subst (λ x. P x e.1) (sym (same q e.0 ((Equal-is (R q e.0)).0 t))) all.0)
    by_key false t k = Some_None (sym k)

    by_rest : (last_value R q es ≡ Some v → P q v) → (o : Option (List ℕ)) →
        last_value R q es ≡ o → choice o (cond (is_eq (R q e.0)) (Some e.1) None) ≡ Some v → P q v
    by_rest again (Some x) k t = again (k ∙ t)
    by_rest again None k t = by_key (is_eq (R q e.0)) refl t

-- ---- what entries of a font put is put by a font

notdef_bytes : AreBytes notdef
notdef_bytes = (omega arith, (omega arith, (omega arith, (omega arith, (omega arith, (omega arith, (omega arith, tt)))))))

name_is : (puts : List (ℕ × List ℕ)) (c : ℕ) → AllByRecursion IsReadPut puts → IsWord 127 (name_after puts c)
name_is puts c all = by_last (last_value nat_cmp c puts) refl
  where
    by_last : (o : Option (List ℕ)) → last_value nat_cmp c puts ≡ o → IsWord 127 (unwrap_or o notdef)
    by_last None e =
        record { regular = (refl, (refl, (refl, (refl, (refl, (refl, (refl, tt))))))); some = omega arith; few = omega arith; bytes = notdef_bytes }
    by_last (Some n) e = (last_has nat_cmp nat_cmp-IsAntisymmetric (λ c n. IsReadPut (c, n)) puts all c n e).name

copied_are : (puts : List (ℕ × List ℕ)) (from count to : ℕ) → AllByRecursion IsReadPut puts → to + count ≤ 256 →
    AllByRecursion IsReadPut (copied puts from count to)
copied_are puts from zero to all h = tt
copied_are puts from (suc n) to all h =
    (record { code = omega (arith, h); name = name_is puts from all }, copied_are puts (suc from) n (suc to) all (omega (arith, h)))

put_is : (puts : List (ℕ × List ℕ)) (e : CodeEntry) → AllByRecursion IsReadPut puts → IsReadEntry e → AllByRecursion IsReadPut (put_by puts e)
put_is puts (Put c n) all h = (h, tt)
put_is puts (Copy from count to) all h = copied_are puts from count to all h.1

pub puts_are : (puts : List (ℕ × List ℕ)) (es : List CodeEntry) → AllByRecursion IsReadPut puts → AllByRecursion IsReadEntry es →
    AllByRecursion IsReadPut (puts_after puts es)
puts_are puts [] all h = all
puts_are puts (e ∷ es) all h = puts_are (puts ++ put_by puts e) es (all_of_both IsReadPut puts (put_by puts e) all (put_is puts e all h.0)) h.1

-- ---- the last value of a key

plain_fits : (iv : ℕ) (b : Body) → IsBody iv b → AreBytes b.bytes → IsCharstring iv (plain_of iv b.bytes)
plain_fits iv b h bytes = record {
  short = omega (arith, h.long, h.short, length-drop iv (decrypted 4330 b.bytes), length-decrypted b.bytes 4330);
  bytes = drop_bytes iv (decrypted 4330 b.bytes) (decrypted_bytes b.bytes 4330 (omega arith) bytes);
}

all_fit : {K : Type 0} (IsKey : K → Type 0) (iv : ℕ) (es : List (Entry K)) → AllByRecursion (IsRead IsKey iv) es →
    AllByRecursion (λ e. IsKey e.0 × IsCharstring iv e.1) (plain_entries iv es)
all_fit IsKey iv [] all = tt
all_fit IsKey iv (e ∷ es) all = ((all.0.0, plain_fits iv e.body all.0.1 all.0.2), all_fit IsKey iv es all.1)

-- so it is of each charstring in the map of such entries
pub map_fits : {K : Type 0} {R : K → K → Ordering} → IsTotalOrder R → IsAntisymmetric R → (IsKey : K → Type 0) (iv : ℕ) (es : List (Entry K)) →
    AllByRecursion (IsRead IsKey iv) es → (k : K) (v : List ℕ) → get {R = R} (map_of (plain_entries iv es)) k ≡ Some v → IsKey k × IsCharstring iv v
map_fits {R = R} o same IsKey iv es all k v e = last_has R same (λ k v. IsKey k × IsCharstring iv v)
    (plain_entries iv es) (all_fit IsKey iv es all) k v (sym (get-map_of o same (plain_entries iv es) k) ∙ e)
