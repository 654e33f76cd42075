-- Bytes that are made lines of digits where they stand, the last line first.
use Rattle.std.proofs.{Common.{◌≡◌, ℕ, ◌+◌, ◌*◌, ◌-◌, ◌≤◌, ◌<◌, ◌⊎◌, List, [], ◌∷◌, ◌++◌, length, take, drop, refl, sym, ap, ◌∙◌, arith, inl, inr}, lemmas.Bool.{cases_lt}}
use Rattle.std.proofs.lemmas.List.{length-take, length-take-le, length-drop, take-append-drop, take-append-le, take-take, drop-take, drop-drop, drop_at, drop_all}
use Rattle.std.specs.Prelude.{min}
use Rattle.hex.specs.Hex.{encode_lower}
use Rattle.t1_bytes.{specs.Texts.{hex_lines}, proofs.HexLemmas.{one_line}}

module _ (whole : List ℕ) (from count lines : ℕ) where
  abbrev pub bytes : List ℕ
  bytes = take count (drop from whole)

  -- a text in which the lines from number `left` on stand, and what they are made of before these stays
  pub record Spread (left : ℕ) (text : List ℕ) : Type 0 where
    pub size : length text ≡ length whole
    pub few : left ≤ lines
    pub front : take (from + min (32 * left) count) text ≡ take (from + min (32 * left) count) whole
    pub back : drop (from + 65 * left) text ≡ hex_lines (drop (32 * left) bytes)

  module _ (enough : count ≤ 32 * lines) (few : 32 * lines < count + 32) (room : length whole ≡ from + (2 * count + lines)) where
    many : length bytes ≡ count
    many = omega (arith, length-take count (drop from whole), length-drop from whole, room)

    -- before the first line is written, all bytes stand where they stood
    pub at_first : Spread lines whole
    at_first = record {
      size = refl;
      few = omega arith;
      front = refl;
      back = drop_all (from + 65 * lines) whole (omega (arith, room, enough)) ∙ ap hex_lines (sym (drop_all (32 * lines) bytes (omega (arith, many, enough))));
    }

    -- after the last line is written, the bytes have become their lines
    pub at_last : (text : List ℕ) → Spread 0 text → text ≡ take from whole ++ hex_lines bytes
    at_last text h =
        let none : from + min (32 * 0) count ≡ from = omega arith in
        let front : take from text ≡ take from whole = ap (λ n. take n text) (sym none) ∙ (h.front ∙ ap (λ n. take n whole) none) in
        let start : from + 65 * 0 ≡ from = omega arith in
        let back : drop from text ≡ hex_lines bytes = ap (λ n. drop n text) (sym start) ∙ h.back in
        sym (take-append-drop from text) ∙ (λ i. front i ++ back i)

    module _ (next left : ℕ) (text : List ℕ) (is : next ≡ left + 1) (h : Spread next text) where
      abbrev start : ℕ
      start = from + 32 * left

      abbrev to : ℕ
      to = from + 65 * left

      abbrev len : ℕ
      len = min 32 (count - 32 * left)

      abbrev rest : List ℕ
      rest = drop (32 * left) bytes

      abbrev line : List ℕ
      line = take len rest

      inside : 32 * left < count
      inside = omega (arith, is, h.few, few)

      rest_many : length rest ≡ count - 32 * left
      rest_many = length-drop (32 * left) bytes ∙ ap (λ n. n - 32 * left) many

      -- the line's bytes stand yet
      line_stands : take len (drop start text) ≡ line
      line_stands =
          let end : start + len ≡ from + min (32 * next) count = omega (arith, is, inside) in
          let kept : take (start + len) text ≡ take (start + len) whole = ap (λ n. take n text) end ∙ (h.front ∙ ap (λ n. take n whole) (sym end)) in
          let most : 32 * left + (count - 32 * left) ≡ count = omega (arith, inside) in
          let rest_is : rest ≡ take (count - 32 * left) (drop start whole) =
          ap (λ n. drop (32 * left) (take n (drop from whole))) (sym most)
          ∙ (drop-take (32 * left) (count - 32 * left) (drop from whole) ∙ ap (take (count - 32 * left)) (drop-drop (32 * left) from whole)) in
          sym (drop-take start len text) ∙ (ap (drop start) kept
          ∙ (drop-take start len whole ∙ (sym (take-take len (count - 32 * left) (drop start whole) (omega arith)) ∙ ap (take len) (sym rest_is))))

      -- the lines behind it stand already
      behind_short : count - 32 * left < 32 → drop (to + (2 * len + 1)) text ≡ hex_lines (drop len rest)
      behind_short short =
          drop_all (to + (2 * len + 1)) text (omega (arith, h.size, room, is, h.few, few, enough, short, inside))
          ∙ ap hex_lines (sym (drop_all len rest (omega (arith, rest_many, short))))

      behind_full : 32 ≤ count - 32 * left → drop (to + (2 * len + 1)) text ≡ hex_lines (drop len rest)
      behind_full full =
          let last : to + (2 * len + 1) ≡ from + 65 * next = omega (arith, is, full) in
          let place : 32 * left + len ≡ 32 * next = omega (arith, is, full) in
          ap (λ n. drop n text) last ∙ (h.back ∙ ap hex_lines (ap (λ n. drop n bytes) (sym place) ∙ sym (drop-drop len (32 * left) bytes)))

      behind : drop (to + (2 * len + 1)) text ≡ hex_lines (drop len rest)
      behind = elim (cases_lt (count - 32 * left) 32) [ inl h ↦ behind_short h | inr h ↦ behind_full h ]

      full_or_last : (length line ≡ 32) ⊎ ((length line ≤ 32) × (drop len rest ≡ []))
      full_or_last = elim (cases_lt (count - 32 * left) 32) [
        | inl h ↦ inr (omega (arith, length-take len rest), drop_all len rest (omega (arith, rest_many, h)))
        | inr h ↦ inl (omega (arith, length-take len rest, rest_many, h))
      ]

      lines_are : encode_lower line ++ (10 ∷ hex_lines (drop len rest)) ≡ hex_lines rest
      lines_are =
          sym (one_line line (drop len rest) (omega (arith, length-take len rest, rest_many, inside)) full_or_last) ∙ ap hex_lines (take-append-drop len rest)

      -- once one more line is written, the lines behind it stay
      pub one_more : (new : List ℕ) → length new ≡ length text →
          new ≡ take to text ++ (encode_lower (take len (drop start text)) ++ (10 ∷ drop (to + (2 * len + 1)) text)) → Spread left new
      one_more new same put =
          let within : to ≤ length text = omega (arith, h.size, room, is, h.few, few, enough) in
          let first : from + min (32 * left) count ≡ start = omega (arith, inside) in
          let written : encode_lower (take len (drop start text)) ++ (10 ∷ drop (to + (2 * len + 1)) text) ≡ hex_lines rest =
          (λ i. encode_lower (line_stands i) ++ (10 ∷ behind i)) ∙ lines_are in
          let new_is : new ≡ take to text ++ hex_lines rest = put ∙ ap (λ (u : List ℕ). take to text ++ u) written in
          let early : from + min (32 * left) count ≤ from + min (32 * next) count = omega (arith, is) in
          record {
            size = same ∙ h.size;
            few = omega (arith, is, h.few);
            front =
                ap (take (from + min (32 * left) count)) new_is
                ∙ (take-append-le (from + min (32 * left) count) (take to text) (hex_lines rest) (omega (arith, length-take-le to text within, first))
                ∙ (take-take (from + min (32 * left) count) to text (omega (arith, first))
                ∙ (sym (take-take (from + min (32 * left) count) (from + min (32 * next) count) text early)
                ∙ (ap (take (from + min (32 * left) count)) h.front ∙ take-take (from + min (32 * left) count) (from + min (32 * next) count) whole early))));
            back = ap (drop to) new_is ∙ drop_at (take to text) (hex_lines rest) to (length-take-le to text within);
          }
