-- How long a canonical file is.
use Rattle.std.proofs.Common.{◌≡◌, ℕ, suc, ◌+◌, ◌*◌, ◌≤◌, ◌<◌, Bool, true, false, leb, List, [], ◌∷◌, ◌++◌, map, length, Option, Some, None, refl, ap, arith, is_lt, Ordering, Less, Equal}
use Rattle.std.proofs.{Common.{Greater}, lemmas.Bool.{leb-true, and_parts}, lemmas.Fmt.{length-decimal-le}, lemmas.List.{length-append, length-map}}
use Rattle.std.specs.{Prelude.{codes}, Fmt.{decimal as digits}, List.{AllByRecursion}, Option.{option_map}, Ordering.{nat_cmp}, Cmp.{nat_cmp_total, ranked}}
use Rattle.std.specs.{FinMap.{entries, entries_sorted, len-entries, is_sorted, nat_cmp-IsAntisymmetric}, FinMap.Entries.{below_all}, Cmp.Lexicographic.{nat_list_cmp_total}}
use Rattle.t1_bytes.specs.{declared.form.Form.{Form}, declared.form.Form.TheVariants.{Pfa, Pfb}, Cipher.{private_cipher}, Limits.{file_limit}}
use Rattle.t1_bytes.proofs.{Ciphers.{length-sealed}, FileLengths.{pfa_length, pfb_length}}
use Rattle.t1_text.specs.{Words.{word, phrase_of, phrase_after, is_access, passes}, Entry.{Body}, FontWords.{IsWord, IsPhrase, IsCharstring}}
use Rattle.t1_font.specs.FontValue.{FontValue, Shell, SubrsShell, Encoding, Word, Codes, SparseArray, total, subr_weight, glyph_weight, weight}
use Rattle.t1_font.specs.Writing.{body_text, entry_text, entries_text, index_text, subrs_text, subrs_part, name_text, glyphs_text, glyphs_part, puts_text, encoding_text}
use Rattle.t1_font.specs.{Canon.{sealed_body, sealed_entry, subr_entry, glyph_entry, subrs_pieces, encoding_pieces, canon_clear, canon_private, canon}, WriteLaws.{CanonLength}}
use Rattle.t1_font.specs.IsFont.{IsFont, SubrsFit, SubrWords, IsCode, IsEncoding}
use Rattle.t1_font.proofs.{canonical.FontAgain.{name_same, length-body}, MapLemmas.{entries_all, T_true}}

after_short : (test : List ℕ → Bool) (access : Bool) (first p text rest : List ℕ) →
    length first ≤ 32 → (phrase_after test access first).Spells p text rest → length p ≤ 32
after_short test false first p text rest h s = omega (arith, ap length s.1)
after_short test true first p text rest h s = leb-true (length p) 32 s.1

spelled_short : (test : List ℕ → Bool) (p text rest : List ℕ) → (phrase_of test).Spells p text rest → length p ≤ 32
unfolding phrase_of word
spelled_short test p text rest s =
    after_short test (is_access s.0) s.0 p s.2 rest (leb-true (length s.0) 32 (and_parts (leb 1 (length s.0)) (leb (length s.0) 32) s.4.0.1).1) s.5

-- a phrase has at most 32 bytes
pub phrase_short : (b : Bool) (p : List ℕ) → IsPhrase b p → length p ≤ 32
phrase_short b p h = let s = (phrase_of (passes b)).takes p (p, []) h.whole in spelled_short (passes b) p s.0 [] s.2

digits_short : (n : ℕ) → n ≤ 65535 → length (digits n) ≤ 5
digits_short n h = length-decimal-le 5 n (omega arith) (omega arith) (omega arith)

body_short : (b : Body) → length b.bytes ≤ 65535 → length b.rd ≤ 32 → length b.phrase ≤ 32 → length (body_text b) ≤ 73 + length b.bytes
body_short b n r p =
    let t2 : List ℕ = b.bytes ++ (32 ∷ b.phrase) in
    let t1 : List ℕ = b.rd ++ (32 ∷ t2) in
    omega (
      arith,
      digits_short (length b.bytes) n,
      r,
      p,
      length-append (digits (length b.bytes)) (32 ∷ t1),
      length-append b.rd (32 ∷ t2),
      length-append b.bytes (32 ∷ b.phrase),
    )

-- a table is no longer than it weighs, but for its end
entries_long : {K : Type 0} (key_text : K → List ℕ) (IsKey : K → Type 0) (weight : K → List ℕ → ℕ) (iv : ℕ) (rd phrase closing : List ℕ) →
    ((k : K) (c : List ℕ) → IsKey k → length (key_text k) + 74 + iv + length c ≤ weight k c) → IsWord 32 rd → IsPhrase true phrase
    → (es : List (K × List ℕ)) → AllByRecursion (λ e. IsKey e.0 × IsCharstring iv e.1) es →
    length (entries_text key_text (map (sealed_entry iv rd phrase) es) closing) ≤ total weight es + 1 + length closing
entries_long key_text IsKey weight iv rd phrase closing heavy r p [] all = omega arith
entries_long key_text IsKey weight iv rd phrase closing heavy r p (e ∷ es) all =
    let b : Body = record { rd = rd; bytes = sealed_body iv e.1; phrase = phrase } in
    let size : length (sealed_body iv e.1) ≡ iv + length e.1 = length-body iv e.1 in
    let behind : length (body_text b) ≤ 73 + length (sealed_body iv e.1) =
    body_short b (omega (arith, size, all.0.1.short)) r.few (phrase_short true phrase p) in
    let first : length (entry_text key_text (sealed_entry iv rd phrase e)) ≤ weight e.0 e.1 =
    omega (arith, size, behind, heavy e.0 e.1 all.0.0, length-append (key_text e.0) (body_text b)) in
    omega (
      arith,
      first,
      entries_long key_text IsKey weight iv rd phrase closing heavy r p es all.1,
      length-append (entry_text key_text (sealed_entry iv rd phrase e)) (entries_text key_text (map (sealed_entry iv rd phrase) es) closing),
    )

subrs_long : (iv : ℕ) (s : SubrsShell) (es : List (ℕ × List ℕ)) → length s.closing ≤ 32 → SubrWords es s →
    AllByRecursion (λ e. (e.0 ≤ 65535) × IsCharstring iv e.1) es → length (subrs_text (map (subr_entry iv s) es) s.closing) ≤ total (subr_weight iv) es + 33
subrs_long iv s [] away w all = omega arith
subrs_long iv s (e ∷ es) away w all = omega (
  arith,
  away,
  entries_long index_text (λ i. i ≤ 65535) (subr_weight iv) iv s.rd s.put s.closing (λ i c h. omega (arith, digits_short i h)) w.0 w.1 (e ∷ es) all,
)

part_long : (s : Shell) (o : Option SubrsShell) (m : SparseArray) → SubrsFit s o m →
    length (subrs_part (option_map (subrs_pieces s.len_iv (entries m)) o)) ≤ total (subr_weight s.len_iv) (entries m) + 60
part_long s None m h = omega arith
part_long s (Some t) m h =
    let all = entries_all nat_cmp_total nat_cmp-IsAntisymmetric (λ i c. (i ≤ 65535) × IsCharstring s.len_iv c) m
    (λ i c e. (omega (arith, h.below i c e, h.declared), h.bodies i c e)) in
    let table : List ℕ = subrs_text (map (subr_entry s.len_iv t) (entries m)) t.closing in
    let long : length table ≤ total (subr_weight s.len_iv) (entries m) + 33 =
    subrs_long s.len_iv t (entries m) (phrase_short false t.closing h.closing) h.words all in
    omega (arith, long, digits_short t.declared h.declared, length-append (digits t.declared) (codes " array" ++ table))

-- the private text is hardly longer than its tables and texts weigh
pub private_long : (f : FontValue) → IsFont f
    → length (canon_private f) ≤ length f.shell.private + length f.shell.middle + length f.shell.tail + total (subr_weight f.shell.len_iv)
    (entries f.subrs) + total (glyph_weight f.shell.len_iv) (entries f.glyphs) + 100
private_long f h =
    let s = f.shell in
    let gs = map (glyph_entry s) (entries f.glyphs) in
    let o = option_map (subrs_pieces s.len_iv (entries f.subrs)) s.subrs in
    let all = entries_all nat_list_cmp_total name_same (λ n c. IsWord 127 n × IsCharstring s.len_iv c) f.glyphs
    (λ n c e. (h.glyphs.names n c e, h.glyphs.bodies n c e)) in
    let count : length gs ≤ 65535 = omega (arith, length-map (entries f.glyphs) (glyph_entry s), len-entries f.glyphs, h.glyphs.few) in
    let end : List ℕ = s.tail ++ 10 ∷ [] in
    let table : length (glyphs_text gs) ≤ total (glyph_weight s.len_iv) (entries f.glyphs) + 4 =
    omega (
      arith,
      entries_long name_text (IsWord 127) (glyph_weight s.len_iv) s.len_iv s.glyphs_rd s.glyphs_def
          (codes "end") (λ n c k. omega (arith, k.few)) h.glyphs.rd h.glyphs.def (entries f.glyphs) all,
    ) in
    let part : length (glyphs_part gs) ≤ total (glyph_weight s.len_iv) (entries f.glyphs) + 38 =
    omega (arith, table, digits_short (length gs) count, length-append (digits (length gs)) (codes " dict dup begin" ++ glyphs_text gs)) in
    let subrs : length (subrs_part o) ≤ total (subr_weight s.len_iv) (entries f.subrs) + 60 = part_long s s.subrs f.subrs h.subrs in
    omega (
      arith,
      part,
      subrs,
      length-append s.private (subrs_part o ++ (s.middle ++ (glyphs_part gs ++ end))),
      length-append (subrs_part o) (s.middle
          ++ (glyphs_part gs ++ end)),
      length-append s.middle (glyphs_part gs ++ end),
      length-append (glyphs_part gs) end,
      length-append s.tail (10 ∷ []),
    )

-- ---- the clear text

below_lt : (x y : ℕ) → is_lt (nat_cmp x y) ≡ true → x < y
below_lt x y h = by_order (nat_cmp x y) refl h
  where
    by_order : (r : Ordering) → r ≡ nat_cmp x y → is_lt r ≡ true → x < y
    by_order Less e k = ranked x y Less e
    by_order Equal e k = absurd cc
    by_order Greater e k = absurd cc

above : (k : ℕ) (es : List (ℕ × List ℕ)) → below_all nat_cmp k es ≡ true → AllByRecursion (λ e. e.0 ≤ 255) es →
    AllByRecursion (λ e. (suc k ≤ e.0) × (e.0 ≤ 255)) es
above k [] h all = tt
above k (e ∷ es) h all =
    let both = and_parts (is_lt (nat_cmp k e.0)) (below_all nat_cmp k es) h in ((omega (arith, below_lt k e.0 both.0), all.0), above k es both.1 all.1)

-- codes from k to 255 that rise are at most 256 - k
few_from : (k : ℕ) (es : List (ℕ × List ℕ)) → k ≤ 256 → is_sorted nat_cmp es ≡ true → AllByRecursion (λ e. (k ≤ e.0) × (e.0 ≤ 255)) es → length es + k ≤ 256
few_from k [] h s all = omega arith
few_from k (e ∷ es) h s all =
    let both = and_parts (below_all nat_cmp e.0 es) (is_sorted nat_cmp es) s in
    let rest : length es + suc e.0 ≤ 256 = few_from (suc e.0) es (omega (arith, all.0.1)) both.1 (above e.0 es both.0 (most es all.1)) in
    omega (arith, rest, all.0.0)
  where
    most : (fs : List (ℕ × List ℕ)) → AllByRecursion (λ e. (k ≤ e.0) × (e.0 ≤ 255)) fs → AllByRecursion (λ e. e.0 ≤ 255) fs
    most [] all = tt
    most (f ∷ fs) all = (all.0.1, most fs all.1)

put_short : (c : ℕ) (n rest : List ℕ) → IsCode c n →
    length (10 ∷ (codes "dup " ++ (digits c ++ (codes " /" ++ (n ++ (codes " put" ++ rest)))))) ≤ 143 + length rest
put_short c n rest h = omega (
  arith,
  digits_short c (omega (arith, h.code)),
  h.name.few,
  length-append (digits c) (codes " /" ++ (n ++ (codes " put" ++ rest))),
  length-append n (codes " put" ++ rest),
)

puts_long : (es : List (ℕ × List ℕ)) → AllByRecursion (λ e. IsCode e.0 e.1) es → length (puts_text es) ≤ 143 * length es + 13
puts_long [] all = omega arith
puts_long (e ∷ es) all = omega (arith, put_short e.0 e.1 (puts_text es) all.0, puts_long es all.1)

codes_few : (m : SparseArray) → IsEncoding (Codes m) → length (entries m) ≤ 256
codes_few m h = omega (
  arith,
  few_from 0 (entries m) (omega arith) (T_true (is_sorted nat_cmp (entries m)) (entries_sorted m))
      (entries_all nat_cmp_total nat_cmp-IsAntisymmetric (λ c n. (0 ≤ c) × (c ≤ 255)) m (λ c n e. (omega arith, (h c n e).code))),
)

encoding_long : (e : Encoding) → IsEncoding e → length (encoding_text (encoding_pieces e)) ≤ 36700
encoding_long (Word w) h = omega (arith, h.few, length-append w (codes " def"))
encoding_long (Codes m) h = omega (arith, puts_long (entries m) (entries_all nat_cmp_total nat_cmp-IsAntisymmetric IsCode m h), codes_few m h)

-- the canonical clear text is longer than its two kept texts by at most 36,701 bytes
pub clear_long : (f : FontValue) → IsFont f → length (canon_clear f) ≤ length f.shell.head + length f.shell.clear_tail + 36701
clear_long f h =
    let s = f.shell in
    let e = encoding_text (encoding_pieces f.encoding) in
    omega (
      arith,
      encoding_long f.encoding h.encoding,
      length-append s.head (e ++ (s.clear_tail ++ 10 ∷ [])),
      length-append e (s.clear_tail ++ 10 ∷ []),
      length-append s.clear_tail (10 ∷ []),
    )

-- ---- the file

-- a canonical file is not much longer than its font weighs
pub canon_weighs : (f : FontValue) (form : Form) → IsFont f → length (canon f form) ≤ CanonLength form (weight f)
canon_weighs f Pfa h =
    let p = canon_private f in
    let c = private_cipher p in
    let clear = canon_clear f in
    let cipher : length c ≡ length p + 4 = omega (arith, length-sealed 55665 4 p) in
    let b : length clear ≤ length f.shell.head + length f.shell.clear_tail + 36701 = clear_long f h in
    let d = private_long f h in
    omega (arith, pfa_length clear c, b, d, cipher)
canon_weighs f Pfb h =
    let p = canon_private f in
    let c = private_cipher p in
    let clear = canon_clear f in
    let cipher : length c ≡ length p + 4 = omega (arith, length-sealed 55665 4 p) in
    let b : length clear ≤ length f.shell.head + length f.shell.clear_tail + 36701 = clear_long f h in
    let d = private_long f h in
    omega (arith, pfb_length clear c, b, d, cipher)

-- and so within the file limit
pub canon_short : (f : FontValue) (form : Form) → IsFont f → length (canon f form) ≤ file_limit
canon_short f Pfa h = omega (arith, canon_weighs f Pfa h, h.light)
canon_short f Pfb h = omega (arith, canon_weighs f Pfb h, h.light)
