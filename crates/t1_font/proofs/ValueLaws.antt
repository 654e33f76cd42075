-- What is tested on lists of entries holds of the font.
use Rattle.std.proofs.Common.{◌≡◌, ℕ, ◌≤◌, Bool, true, false, cond, ◌||◌, ◌&&◌, leb, List, [], ◌∷◌, ◌++◌, length, take, drop, Option, Some, None, refl, sym, ap, ◌∙◌, arith}
use Rattle.std.proofs.{lemmas.Map.Text.{is_eq-slice_cmp}, lemmas.Bool.{leb-true, le-leb, and_parts, and_from}, lemmas.List.{take-append-drop, drop_at, length-take-le}}
use Rattle.std.specs.{Prelude.{is_some}, List.{list_any}, Str.{bytes_eq}, FinSet.{IsAntisymmetric, slice_cmp-IsAntisymmetric, nat_cmp-IsAntisymmetric}, Ordering.{nat_cmp, is_eq}, Cmp.{nat_cmp_total}}
use Rattle.std.specs.Cmp.Lexicographic.{nat_list_cmp_total}
use Rattle.t1_bytes.{specs.Cipher.{Enciphers, decrypted, private_text, plain_of}, proofs.Ciphers.{Enciphers-decrypted, decrypted-is, length-decrypted}}
use Rattle.t1_grammar.specs.Grammar.{choice}
use Rattle.t1_font.specs.Pieces.{ClearPieces, PrivatePieces}
use Rattle.t1_text.specs.{Entry.{plain_entries}, Glyphs.{Glyph}, Entries.{last_entries, last_value}}
use Rattle.t1_font.specs.FontValue.{name_cmp, notdef, weight_of, FitsLimits, declared_count, count_limit, weight_limit}
use Rattle.t1_font.specs.ReadFont.{subr_entries, glyph_entries, shell_of, font_of, has_notdef, is_within}
use Rattle.t1_text.proofs.MapLaws.{get-map_of, entries-map_of, len-map_of}
use Rattle.std.specs.FinMap as maps

name_same : IsAntisymmetric name_cmp
name_same = slice_cmp-IsAntisymmetric nat_cmp-IsAntisymmetric

some_choice : (o : Option (List ℕ)) (b : Bool) (v : List ℕ) → is_some (choice o (cond b (Some v) None)) ≡ (b || is_some o)
some_choice (Some x) true v = refl
some_choice (Some x) false v = refl
some_choice None true v = refl
some_choice None false v = refl

some_last : (q : List ℕ) (iv : ℕ) (gs : List Glyph) → is_some (last_value name_cmp q (plain_entries iv gs)) ≡ list_any (λ g. bytes_eq q g.key) gs
some_last q iv [] = refl
some_last q iv (g ∷ gs) =
    some_choice (last_value name_cmp q (plain_entries iv gs)) (is_eq (name_cmp q g.key)) (plain_of iv g.body.bytes)
    ∙ (ap (λ b. b || is_some (last_value name_cmp q (plain_entries iv gs))) (is_eq-slice_cmp q g.key) ∙ ap (λ b. bytes_eq q g.key || b) (some_last q iv gs))

-- a font has `.notdef` exactly where its entries do
pub notdef_is : (c : ClearPieces) (p : PrivatePieces) → maps.contains_key (font_of c p).glyphs notdef ≡ has_notdef p
notdef_is c p = ap is_some (get-map_of nat_list_cmp_total name_same (glyph_entries p) notdef) ∙ some_last notdef p.len_iv p.glyphs

-- entries that are tested to be within the limits make a font within them
pub within_of : (c : ClearPieces) (p : PrivatePieces) →
    is_within (shell_of c p) (last_entries nat_cmp (subr_entries p)) (last_entries name_cmp (glyph_entries p)) ≡ true → FitsLimits (font_of c p)
within_of c p h =
    let s = last_entries nat_cmp (subr_entries p) in
    let g = last_entries name_cmp (glyph_entries p) in
    let one =
    and_parts (leb (declared_count (shell_of c p).subrs) count_limit && leb (length g) count_limit) (leb (weight_of (shell_of c p) s g) weight_limit) h in
    let two = and_parts (leb (declared_count (shell_of c p).subrs) count_limit) (leb (length g) count_limit) one.0 in
    record {
      declared = leb-true _ _ two.0;
      glyphs = rw (len-map_of nat_list_cmp_total name_same (glyph_entries p)) (leb-true _ _ two.1);
      weight = rw (entries-map_of nat_cmp_total nat_cmp-IsAntisymmetric (subr_entries p), entries-map_of nat_list_cmp_total name_same (glyph_entries p))
          (leb-true _ _ one.1);
    }

-- the entries of a font within the limits pass the test
pub within_again : (c : ClearPieces) (p : PrivatePieces) → FitsLimits (font_of c p) →
    is_within (shell_of c p) (last_entries nat_cmp (subr_entries p)) (last_entries name_cmp (glyph_entries p)) ≡ true
within_again c p h =
    let s = last_entries nat_cmp (subr_entries p) in
    let g = last_entries name_cmp (glyph_entries p) in
    let few : length g ≤ count_limit = rw (len-map_of nat_list_cmp_total name_same (glyph_entries p)) at h.glyphs in
    let light : weight_of (shell_of c p) s g ≤ weight_limit =
    rw (entries-map_of nat_cmp_total nat_cmp-IsAntisymmetric (subr_entries p), entries-map_of nat_list_cmp_total name_same (glyph_entries p)) at h.weight in
    and_from _ _ (and_from _ _ (le-leb _ _ h.declared) (le-leb _ _ few)) (le-leb _ _ light)

-- ---- the private text of a cipher

-- a text that was encrypted behind four lead bytes is the private text of its cipher
pub private_again : (lead text cipher : List ℕ) → Enciphers 55665 (lead ++ text) cipher → length lead ≡ 4 → text ≡ private_text cipher
private_again lead text cipher s four = sym (ap (drop 4) (decrypted-is (lead ++ text) cipher 55665 s) ∙ drop_at lead text 4 four)

-- a cipher enciphers its lead bytes and its private text
pub private_enciphers : (cipher : List ℕ) → Enciphers 55665 (take 4 (decrypted 55665 cipher) ++ private_text cipher) cipher
private_enciphers cipher = rw (take-append-drop 4 (decrypted 55665 cipher)) (Enciphers-decrypted cipher 55665)

-- a cipher of at least four bytes has four lead bytes
pub lead_length : (cipher : List ℕ) → 4 ≤ length cipher → length (take 4 (decrypted 55665 cipher)) ≡ 4
lead_length cipher h = length-take-le 4 (decrypted 55665 cipher) (omega (arith, length-decrypted cipher 55665, h))
