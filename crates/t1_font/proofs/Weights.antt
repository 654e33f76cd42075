-- Sums that are cut off at 64 bits, and weights of what is in ranges.
use Rattle.std.proofs.{Common.{◌≡◌, refl, sym, ◌∙◌, ap, ℕ, ◌+◌, ◌-◌, ◌≤◌, ◌<◌, min, List, [], ◌∷◌, length, map, drop, arith}, lemmas.List.Elements.{All-head, All-tail}}
use Rattle.std.proofs.lemmas.List.{length-take-le, length-drop}
use Rattle.std.specs.{Ordering.{nat_cmp}, FinMap.{from_sorted, entries, entries-from_sorted}}
use Rattle.t1_join.specs.TableMeaning.{Rises}
use Rattle.t1_font.specs.{declared.ranges.Range.{Range}, FontValue.{Shell, weight_limit, name_cmp, total, texts_weight, weight_of, subr_weight, glyph_weight}, FontModel.{clamp}}
use Rattle.t1_font.specs.Ranges.{bytes_at, IsInside, AllInside, numbered_at, named_at, subr_at_weight, glyph_at_weight}

-- a sum that is cut off on the way, with what is added, is cut off at the end
pub clamp_step : (w x y sum t : ℕ) → y ≡ clamp x → sum ≡ min (w + y) 18446744073709551615 → clamp (sum + t) ≡ clamp (w + (x + t))
clamp_step w x y sum t e f = omega arith

-- a sum that was cut off at nothing is whole
pub clamp_all : (w t : ℕ) → w ≤ 18446744073709551615 → t ≡ clamp (w + 0) → w ≡ t
clamp_all w t h e = omega (arith, h, e)

-- a sum that is cut off fits 64 bits
pub clamp_fits : (n m : ℕ) → m ≡ min n 18446744073709551615 → m ≤ 18446744073709551615
clamp_fits n m e = omega (arith, e)

-- the sum so far, with what is left to add, comes to the whole, as far as 64 bits hold it
pub record Summing {K X : Type 0} (w : K → X → ℕ) (es : List (K × X)) (before sum : ℕ) (left : List (K × X)) : Type 0 where
  pub small : sum ≤ 18446744073709551615
  pub all : clamp (sum + total w left) ≡ clamp (before + total w es)

module _ {K X : Type 0} (w : K → X → ℕ) (es : List (K × X)) (before : ℕ) where
  -- before any entry is added, all are left
  pub sums_none : (left : List (K × X)) → before ≤ 18446744073709551615 → left ≡ es → Summing w es before before left
  sums_none left h e = record { small = h; all = ap (λ (fs : List (K × X)). clamp (before + total w fs)) e }

  -- adding what the next entry weighs keeps the whole as it was
  pub sums_next : (sum n new : ℕ) (e : K × X) (left rest : List (K × X)) → Summing w es before sum left →
      left ≡ e ∷ rest → n ≡ clamp (w e.0 e.1) → new ≡ min (sum + n) 18446744073709551615 → Summing w es before new rest
  sums_next sum n new e left rest s is en ew = record {
    small = clamp_fits (sum + n) new ew;
    all = clamp_step sum (w e.0 e.1) n new (total w rest) en ew ∙ (ap (λ (fs : List (K × X)). clamp (sum + total w fs)) (sym is) ∙ s.all);
  }

  -- when nothing is left, the sum is the whole
  pub sums_all : (sum : ℕ) (left : List (K × X)) → Summing w es before sum left → left ≡ [] → sum ≡ clamp (before + total w es)
  sums_all sum left s e = clamp_all sum _ s.small (sym s.all ∙ ap (λ (fs : List (K × X)). clamp (sum + total w fs)) e)

-- the count so far, with what is left, is that of all, as far as 64 bits hold it
pub record Counting {X : Type 0} (n count : ℕ) (left : List X) : Type 0 where
  pub small : count ≤ 18446744073709551615
  pub all : clamp (count + length left) ≡ clamp n

pub counts_none : {X : Type 0} (left es : List X) → left ≡ es → Counting (length es) 0 left
counts_none left es h = let same = ap length h in record { small = omega arith; all = omega (arith, same) }

module _ {X : Type 0} (n : ℕ) where
  pub counts_next : (count new : ℕ) (x : X) (left rest : List X) → Counting n count left →
      left ≡ x ∷ rest → new ≡ min (count + 1) 18446744073709551615 → Counting n new rest
  counts_next count new x left rest c is e = let one = ap length is in record { small = clamp_fits (count + 1) new e; all = omega (arith, one, e, c.all) }

  pub counts_all : (count : ℕ) (left : List X) → Counting n count left → left ≡ [] → count ≡ clamp n
  counts_all count left c e = let none = ap length e in omega (arith, none, c.small, c.all)

-- a sum that is within the limit is not cut off
pub clamp_light : (w n : ℕ) → w ≡ clamp n → w ≤ weight_limit → n ≤ weight_limit
clamp_light w n e h = omega (arith, e, h)

-- one that is over the limit was over it before
pub clamp_heavy : (w n : ℕ) → w ≡ clamp n → weight_limit < w → weight_limit < n
clamp_heavy w n e h = omega (arith, e, h)

-- ---- ranges of a buffer weigh as the bytes in them

bytes_in : (buffer : List ℕ) (r : Range) → IsInside (length buffer) r → length (bytes_at buffer r) ≡ r.end - r.start
bytes_in buffer r h = length-take-le (r.end - r.start) (drop r.start buffer) (omega (arith, length-drop r.start buffer, h.ordered, h.within))

-- Subrs in ranges weigh what their bytes do
pub subrs_in : (buffer : List ℕ) (len_iv : ℕ) (es : List (ℕ × Range)) → AllInside (length buffer) es →
    total (subr_at_weight len_iv) es ≡ total (subr_weight len_iv) (map (numbered_at buffer) es)
subrs_in buffer len_iv [] h = refl
subrs_in buffer len_iv (e ∷ es) h =
    let Body = λ (e : ℕ × Range). IsInside (length buffer) e.1 in
    rw (bytes_in buffer e.1 (All-head Body e es h), subrs_in buffer len_iv es (All-tail Body e es h)) refl

-- glyphs in ranges weigh what their bytes do
pub glyphs_in : (buffer : List ℕ) (len_iv : ℕ) (es : List (Range × Range)) → AllInside (length buffer) es →
    total (glyph_at_weight len_iv) es ≡ total (glyph_weight len_iv) (map (named_at buffer) es)
glyphs_in buffer len_iv [] h = refl
glyphs_in buffer len_iv (e ∷ es) h =
    let Body = λ (e : Range × Range). IsInside (length buffer) e.1 in
    rw (bytes_in buffer e.1 (All-head Body e es h), glyphs_in buffer len_iv es (All-tail Body e es h)) refl

-- the weight of what a source holds
pub source_weighs : (s : Shell) (buffer : List ℕ) (subrs : List (ℕ × Range)) (glyphs : List (Range × Range)) →
    AllInside (length buffer) subrs → AllInside (length buffer) glyphs →
    Rises nat_cmp (map (numbered_at buffer) subrs) → Rises name_cmp (map (named_at buffer) glyphs) →
    texts_weight s + total (subr_at_weight s.len_iv) subrs + total (glyph_at_weight s.len_iv) glyphs
    ≡ weight_of s (entries (from_sorted {R = nat_cmp} (map (numbered_at buffer) subrs))) (entries (from_sorted {R = name_cmp} (map (named_at buffer) glyphs)))
source_weighs s buffer subrs glyphs subrs_inside glyphs_inside subrs_rise glyphs_rise =
    rw (
      entries-from_sorted nat_cmp (map (numbered_at buffer) subrs) subrs_rise,
      entries-from_sorted name_cmp (map (named_at buffer) glyphs) glyphs_rise,
      subrs_in buffer s.len_iv subrs subrs_inside,
      glyphs_in buffer s.len_iv glyphs glyphs_inside,
    ) refl

-- a sum of three, cut off at each step
pub clamp_each : (a s g x y r : ℕ) → x ≡ clamp a → y ≡ clamp (x + s) → r ≡ clamp (y + g) → r ≡ clamp (a + s + g)
clamp_each a s g x y r e f h = omega arith
