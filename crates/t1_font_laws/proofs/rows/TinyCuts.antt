-- Cuts of Tiny and their joins, computed.
use Rattle.std.proofs.Common.{◌≡◌, ℕ, Bool, ◌||◌, ◌==◌, cond, leb, List, [], ◌∷◌, ◌++◌, map, length, take, unwrap_or, refl, sym, ap, ◌∙◌}
use Rattle.std.specs.{Prelude.{codes, filter}, Str.{bytes_eq}, Ordering.{nat_cmp}, Cmp.{nat_cmp_total}, Cmp.Lexicographic.{nat_list_cmp_total}}
use Rattle.std.specs.FinMap.{find, get, entries, from_sorted, retain_keys, get-entries, entries-from_sorted, same_entries_map, nat_cmp-IsAntisymmetric}
use Rattle.t1_bytes.specs.{declared.form.Form.{Form}, declared.form.Form.TheVariants.{Pfa}, Cipher.{private_cipher}, Texts.{file_text}}
use Rattle.t1_font.specs.{Pieces.{Puts}, Writing.{clear_written, private_written}, Canon.{outside_of, inside_of, canon}, FontValue.{SparseArray, Codes, name_cmp, notdef, weight, weight_of}}
use Rattle.t1_font.specs.{Cut.{stub, restrict}, Maps.{map_values, merged}, Joins.{joined_subr, join_parts}}
use Rattle.t1_text.specs.Entries.{last_entries}
use Rattle.t1_font.proofs.{MapLemmas.{entries-map_values}, canonical.FontAgain.{name_same}, CutEntries.{entries-retain, entries-retain_values, entries-merged}}
use Rattle.t1_font_laws.proofs.rows.TinyNumbers.{n0, n1, n2, n3, n4, n5, n6, n7, n8, n9, n10, n15, n16, n19, n65, n66}
use Rattle.t1_font_laws.proofs.rows.Tiny.{lines, head, clear_tail, shell, puts, subrs, glyphs, tiny, glyph_X, glyph_Y, encoding_head, private_lines, subr_line, glyph_line, first_subr, more_subrs}
use Rattle.t1_font_laws.proofs.rows.Tiny.{first_glyph, private_with}

-- ---- the entries of cuts

abbrev cut_subrs : (ℕ → Bool) → List (ℕ × List ℕ)
cut_subrs kept = map (λ e. (e.0, cond (kept e.0) e.1 stub)) subrs

abbrev cut_glyphs : (List ℕ → Bool) → List (List ℕ × List ℕ)
cut_glyphs names = filter (λ e. names e.0) glyphs

abbrev cut_puts : (List ℕ → Bool) → List (ℕ × List ℕ)
cut_puts names = filter (λ e. names e.1) puts

module _ (names : List ℕ → Bool) (kept : ℕ → Bool) where
  subrs_are : entries (restrict names kept tiny).subrs ≡ cut_subrs kept
  subrs_are = entries-map_values nat_cmp_total nat_cmp-IsAntisymmetric (λ i c. cond (kept i) c stub) tiny.subrs
      ∙ ap (map (λ e. (e.0, cond (kept e.0) e.1 stub))) (entries-from_sorted nat_cmp subrs tt)

  glyphs_are : entries (restrict names kept tiny).glyphs ≡ cut_glyphs names
  glyphs_are = entries-retain nat_list_cmp_total name_same tiny.glyphs names ∙ ap (filter (λ e. names e.0)) (entries-from_sorted name_cmp glyphs tt)

  weight_is : weight (restrict names kept tiny) ≡ weight_of shell (cut_subrs kept) (cut_glyphs names)
  weight_is = λ i. weight_of shell (subrs_are i) (glyphs_are i)

-- the codes of a cut
code_map : (List ℕ → Bool) → SparseArray
code_map names = retain_keys (from_sorted puts) (λ c. names (unwrap_or (get {R = nat_cmp} (from_sorted puts) c) []))

codes_are : (names : List ℕ → Bool) → entries (code_map names) ≡ cut_puts names
unfolding code_map
codes_are names =
    entries-retain_values nat_cmp_total nat_cmp-IsAntisymmetric (from_sorted puts) names [] ∙ ap (filter (λ e. names e.1)) (entries-from_sorted nat_cmp puts tt)

-- ---- sets of names and of Subrs

abbrev is_notdef : List ℕ → Bool
is_notdef n = bytes_eq notdef n

abbrev is_X : List ℕ → Bool
is_X n = is_notdef n || bytes_eq (codes "X") n

abbrev is_Y : List ℕ → Bool
is_Y n = is_notdef n || bytes_eq (codes "Y") n

abbrev is_X_or_Y : List ℕ → Bool
is_X_or_Y n = is_X n || is_Y n

-- what N is drawn of
abbrev is_of_N : List ℕ → Bool
is_of_N n = is_notdef n || bytes_eq (codes "A") n || bytes_eq (codes "B") n || bytes_eq (codes "N") n || bytes_eq (codes "acute") n

-- the first four Subrs are kept always
abbrev first_four : ℕ → Bool
first_four i = leb i 3

abbrev and_five : ℕ → Bool
and_five i = leb i 3 || i == 5

abbrev and_six : ℕ → Bool
and_six i = leb i 3 || (i == 5 || i == 6)

-- ---- weights

weight_of_none : weight (restrict is_notdef first_four tiny) ≡ 2167
weight_of_none = weight_is is_notdef first_four ∙ refl

weight_of_X : weight (restrict is_X and_five tiny) ≡ 2444
weight_of_X = weight_is is_X and_five ∙ refl

weight_of_X_and_Y : weight (restrict is_X_or_Y and_six tiny) ≡ 2718
weight_of_X_and_Y = weight_is is_X_or_Y and_six ∙ refl

weight_of_N : weight (restrict is_of_N and_six tiny) ≡ 3259
weight_of_N = weight_is is_of_N and_six ∙ refl

codes_of_X : entries (code_map is_X) ≡ (65, codes "X") ∷ []
codes_of_X = codes_are is_X ∙ refl

-- ---- joins

-- two cuts join to a third one, if the lists of their entries do
join_is : (a b c : List ℕ → Bool) (i j k : ℕ → Bool) → map (λ e. (e.0, joined_subr e.1 (find nat_cmp e.0 (cut_subrs j)))) (cut_subrs i) ≡ cut_subrs k →
    last_entries name_cmp (cut_glyphs b ++ cut_glyphs a) ≡ cut_glyphs c → last_entries nat_cmp (cut_puts b ++ cut_puts a) ≡ cut_puts c
    → join_parts (restrict a i tiny) (restrict b j tiny) ≡ restrict c k tiny
unfolding code_map
join_is a b c i j k s g p =
    let f = restrict a i tiny in
    let h = restrict b j tiny in
    let t = restrict c k tiny in
    let subrs_same : map_values (λ n x. joined_subr x (get h.subrs n)) f.subrs ≡ t.subrs = same_entries_map _ _
    (entries-map_values nat_cmp_total nat_cmp-IsAntisymmetric (λ n x. joined_subr x (get h.subrs n)) f.subrs
    ∙ ((λ d. map (λ e. (e.0, joined_subr e.1 ((get-entries h.subrs e.0 ∙ ap (find nat_cmp e.0) (subrs_are b j)) d))) (subrs_are a i d))
    ∙ (s ∙ sym (subrs_are c k)))) in
    let glyphs_same : merged f.glyphs h.glyphs ≡ t.glyphs = same_entries_map _ _ (entries-merged nat_list_cmp_total name_same f.glyphs h.glyphs
    ∙ ((λ d. last_entries name_cmp (glyphs_are b j d ++ glyphs_are a i d)) ∙ (g ∙ sym (glyphs_are c k)))) in
    let codes_same : merged (code_map a) (code_map b) ≡ code_map c = same_entries_map _ _ (entries-merged nat_cmp_total nat_cmp-IsAntisymmetric
    (code_map a) (code_map b) ∙ ((λ d. last_entries nat_cmp (codes_are b d ++ codes_are a d)) ∙ (p ∙ sym (codes_are c)))) in
    λ d. record { shell = shell; encoding = Codes (codes_same d); subrs = subrs_same d; glyphs = glyphs_same d }

X_with_Y : join_parts (restrict is_X and_five tiny) (restrict is_Y and_six tiny) ≡ restrict is_X_or_Y and_six tiny
X_with_Y = join_is is_X is_Y is_X_or_Y and_five and_six and_six refl refl refl

Y_with_X : join_parts (restrict is_Y and_six tiny) (restrict is_X and_five tiny) ≡ restrict is_X_or_Y and_six tiny
Y_with_X = join_is is_Y is_X is_X_or_Y and_six and_five and_six refl refl refl

-- ---- lengths

-- a cut's canonical file, of the lists of its entries
canon_is : (names : List ℕ → Bool) (kept : ℕ → Bool) (form : Form) → canon (restrict names kept tiny) form ≡ file_text form
    (clear_written (outside_of shell (Puts (cut_puts names)))) (private_cipher (private_written (inside_of shell (cut_subrs kept) (cut_glyphs names))))
unfolding code_map
canon_is names kept form = λ i. file_text form (clear_written (outside_of shell (Puts (codes_are names i))))
    (private_cipher (private_written (inside_of shell (subrs_are names kept i) (glyphs_are names kept i))))

abbrev stub_line : List ℕ → List ℕ
stub_line index = subr_line (index ++ codes " 5") stub

-- the first four, the fifth and sixth as they are given, and the last four stubs
abbrev subr_lines : List ℕ → List ℕ → List (List ℕ)
subr_lines fifth sixth =
    (first_subr ∷ take 3 more_subrs) ++ (stub_line (codes "4") ∷ fifth ∷ sixth ∷ stub_line (codes "7") ∷ stub_line (codes "8") ∷ stub_line (codes "9") ∷ [])

abbrev clear_of : List (List ℕ) → List ℕ
clear_of codes_lines = head ++ (lines encoding_head ++ (lines codes_lines ++ (codes "readonly def" ++ (clear_tail ++ 10 ∷ []))))

abbrev private_of : List ℕ → List ℕ → List ℕ → List (List ℕ) → List ℕ
private_of fifth sixth count glyph_lines = private_with private_lines (codes "/Subrs 10 array") (subr_lines fifth sixth) [] count (first_glyph ∷ glyph_lines)

abbrev line_X : List ℕ
line_X = glyph_line (codes "/X 19") glyph_X

abbrev line_Y : List ℕ
line_Y = glyph_line (codes "/Y 16") glyph_Y

abbrev line_5 : List ℕ
line_5 = subr_line (codes "5 7") (0xEF ∷ 0x06 ∷ 0x0B ∷ [])

abbrev line_6 : List ℕ
line_6 = subr_line (codes "6 7") (0x27 ∷ 0x06 ∷ 0x0B ∷ [])

private_of_none : private_written (inside_of shell (cut_subrs first_four) (cut_glyphs is_notdef))
    ≡ private_of (stub_line (codes "5")) (stub_line (codes "6")) (codes "1") []
private_of_none = simp (n0, n1, n2, n3, n4, n5, n6, n7, n8, n9, n10, n15)

length_of_none : length (canon (restrict is_notdef first_four tiny) Pfa) ≡ 2141
length_of_none = ap length (canon_is is_notdef first_four Pfa ∙ (λ i. file_text Pfa (clear_of []) (private_cipher (private_of_none i)))) ∙ refl

private_of_X : private_written (inside_of shell (cut_subrs and_five) (cut_glyphs is_X)) ≡ private_of line_5 (stub_line (codes "6")) (codes "2") (line_X ∷ [])
private_of_X = simp (n0, n1, n2, n3, n4, n5, n6, n7, n8, n9, n10, n15, n19)

clear_of_X : clear_written (outside_of shell (Puts (cut_puts is_X))) ≡ clear_of (codes "dup 65 /X put" ∷ [])
clear_of_X = simp n65

length_of_X : length (canon (restrict is_X and_five tiny) Pfa) ≡ 2224
length_of_X = ap length (canon_is is_X and_five Pfa ∙ (λ i. file_text Pfa (clear_of_X i) (private_cipher (private_of_X i)))) ∙ refl

private_of_both : private_written (inside_of shell (cut_subrs and_six) (cut_glyphs is_X_or_Y)) ≡ private_of line_5 line_6 (codes "3") (line_X ∷ line_Y ∷ [])
private_of_both = simp (n0, n1, n2, n3, n4, n5, n6, n7, n8, n9, n10, n15, n16, n19)

clear_of_both : clear_written (outside_of shell (Puts (cut_puts is_X_or_Y))) ≡ clear_of (codes "dup 65 /X put" ∷ codes "dup 66 /Y put" ∷ [])
clear_of_both = simp (n65, n66)

length_of_both : length (canon (restrict is_X_or_Y and_six tiny) Pfa) ≡ 2301
length_of_both = ap length (canon_is is_X_or_Y and_six Pfa ∙ (λ i. file_text Pfa (clear_of_both i) (private_cipher (private_of_both i)))) ∙ refl
