-- Lengths that the writer counts.
use Rattle.std.{proofs.Common.{◌≡◌, ℕ, suc, ◌+◌, List, [], ◌∷◌, ◌++◌, length, map, refl, sym, ap, ◌∙◌, append_assoc}, specs.{Prelude.{codes}, FinMap.{entries, len, len-entries}, Fmt.{decimal}}}
use Rattle.t1_bytes.proofs.Ciphers.{length-sealed}
use Rattle.t1_font.specs.{FontValue.{CharStrings, Shell, SubrsShell, name_cmp}, Canon.{sealed_body, subr_entry, glyph_entry}, Writing.{subr_text, glyph_text, glyphs_text, glyphs_part}}

-- a charstring in a file has its lead bytes before it
pub length_of_sealed : (len_iv : ℕ) (plain : List ℕ) → length (sealed_body len_iv plain) ≡ len_iv + length plain
length_of_sealed len_iv plain = length-sealed 4330 len_iv plain

-- as many glyphs are written as there are
pub glyphs_counted : (s : Shell) (m : CharStrings) → length (map (glyph_entry s) (entries m)) ≡ len m
glyphs_counted s m = length_map (entries m) ∙ sym (len-entries {R = name_cmp} m)
  where
    length_map : (es : List (List ℕ × List ℕ)) → length (map (glyph_entry s) es) ≡ length es
    length_map [] = refl
    length_map (e ∷ es) = ap suc (length_map es)

-- what follows the key of an entry
abbrev pub after_key : ℕ → List ℕ → List ℕ → List ℕ → List ℕ
after_key len_iv plain rd phrase = 32 ∷ (decimal (len_iv + length plain) ++ (32 ∷ (rd ++ (32 ∷ (sealed_body len_iv plain ++ (32 ∷ phrase))))))

counted : (len_iv : ℕ) (plain rd phrase : List ℕ) →
    after_key len_iv plain rd phrase ≡ 32 ∷ (decimal (length (sealed_body len_iv plain)) ++ (32 ∷ (rd ++ (32 ∷ (sealed_body len_iv plain ++ (32 ∷ phrase))))))
counted len_iv plain rd phrase =
    ap (λ (n : ℕ). 32 ∷ (decimal n ++ (32 ∷ (rd ++ (32 ∷ (sealed_body len_iv plain ++ (32 ∷ phrase))))))) (sym (length_of_sealed len_iv plain))

-- three texts are put one after the other
pub three_put : (out a b c one two three : List ℕ) → one ≡ out ++ a → two ≡ one ++ b → three ≡ two ++ c → three ≡ out ++ (a ++ (b ++ c))
three_put out a b c one two three p q r =
    r ∙ (ap (λ (x : List ℕ). x ++ c) q ∙ (append_assoc one b c ∙ (ap (λ (x : List ℕ). x ++ (b ++ c)) p ∙ append_assoc out a (b ++ c))))

-- the parts of a glyph's line, put one after the other, are the line
pub glyph_put : (out one two all : List ℕ) (s : Shell) (name plain : List ℕ) → one ≡ out ++ (10 ∷ 47 ∷ []) → two ≡ one ++ name →
    all ≡ two ++ after_key s.len_iv plain s.glyphs_rd s.glyphs_def → all ≡ out ++ glyph_text (glyph_entry s (name, plain))
glyph_put out one two all s name plain a b c = three_put out (10 ∷ 47 ∷ []) name _ one two all a b c
    ∙ ap (λ (u : List ℕ). out ++ (10 ∷ 47 ∷ (name ++ u))) (counted s.len_iv plain s.glyphs_rd s.glyphs_def)

-- the parts of a Subr's line, put one after the other, are the line
pub subr_put : (out one two all : List ℕ) (len_iv : ℕ) (s : SubrsShell) (index : ℕ) (plain : List ℕ) → one ≡ out ++ (10 ∷ 100 ∷ 117 ∷ 112 ∷ 32 ∷ []) →
    two ≡ one ++ decimal index → all ≡ two ++ after_key len_iv plain s.rd s.put → all ≡ out ++ subr_text (subr_entry len_iv s (index, plain))
subr_put out one two all len_iv s index plain a b c = three_put out (10 ∷ 100 ∷ 117 ∷ 112 ∷ 32 ∷ []) (decimal index) _ one two all a b c
    ∙ ap (λ (u : List ℕ). out ++ (10 ∷ 100 ∷ 117 ∷ 112 ∷ 32 ∷ (decimal index ++ u))) (counted len_iv plain s.rd s.put)

-- the marker of the glyphs, and the glyphs that are left to write
pub glyphs_begun : (out one two three : List ℕ) (s : Shell) (m : CharStrings) (n : ℕ) (es : List (List ℕ × List ℕ)) → n ≡ len m →
    one ≡ out ++ codes "/CharStrings " → two ≡ one ++ decimal n → three ≡ two ++ codes " dict dup begin" → es ≡ entries m
    → three ++ glyphs_text (map (glyph_entry s) es) ≡ out ++ glyphs_part (map (glyph_entry s) (entries m))
glyphs_begun out one two three s m n es count a b c same =
    let rest : List ℕ = glyphs_text (map (glyph_entry s) (entries m)) in
    let begun : three ≡ ((out ++ codes "/CharStrings ") ++ decimal (length (map (glyph_entry s) (entries m)))) ++ codes " dict dup begin" =
    c ∙ ap (λ (u : List ℕ). u ++ codes " dict dup begin") (b ∙ (λ i. a i ++ decimal ((count ∙ sym (glyphs_counted s m)) i))) in
    let flat : (((out ++ codes "/CharStrings ") ++ decimal (length (map (glyph_entry s) (entries m)))) ++ codes " dict dup begin") ++ rest
    ≡ out ++ glyphs_part (map (glyph_entry s) (entries m)) =
    append_assoc ((out ++ codes "/CharStrings ") ++ decimal (length (map (glyph_entry s) (entries m)))) (codes " dict dup begin") rest
    ∙ (append_assoc (out ++ codes "/CharStrings ") (decimal (length (map (glyph_entry s) (entries m)))) _ ∙ append_assoc out (codes "/CharStrings ") _) in
    (λ i. begun i ++ glyphs_text (map (glyph_entry s) (same i))) ∙ flat

-- what is put one after another, in one piece
pub six_put : (out a b m g t end one two three four five six : List ℕ) → one ≡ out ++ a → two ≡ one ++ b → three ≡ two ++ m →
    four ≡ three ++ g → five ≡ four ++ t → six ≡ five ++ end → six ≡ out ++ (a ++ (b ++ (m ++ (g ++ (t ++ end)))))
six_put out a b m g t end one two three four five six p q r s u v =
    v ∙ (ap (λ (x : List ℕ). x ++ end) u ∙ (append_assoc four t end
    ∙ (ap (λ (x : List ℕ). x ++ (t ++ end)) s ∙ (append_assoc three g (t ++ end)
    ∙ (ap (λ (x : List ℕ). x ++ (g ++ (t ++ end))) r ∙ (append_assoc two m (g ++ (t ++ end))
    ∙ (ap (λ (x : List ℕ). x ++ (m ++ (g ++ (t ++ end)))) q ∙ (append_assoc one b (m ++ (g ++ (t ++ end)))
    ∙ (ap (λ (x : List ℕ). x ++ (b ++ (m ++ (g ++ (t ++ end))))) p ∙ append_assoc out a (b ++ (m ++ (g ++ (t ++ end)))))))))))))
