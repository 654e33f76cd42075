-- The data of segments, moved to the front of their file.
use Rattle.std.proofs.Common.{◌≡◌, ℕ, ◌+◌, ◌-◌, ◌≤◌, Bool, true, List, [], ◌∷◌, ◌++◌, length, take, drop, Some, None, Ok, Err, refl, sym, ap, ap₂, ◌∙◌, append_assoc, arith}
use Rattle.std.proofs.{lemmas.List.{flat_map_more, length-append, length-drop, drop-drop, take_at, drop_at}, lemmas.List.Edits.{take-paste, drop-paste, length-paste}}
use Rattle.std.specs.List.{copy_within, flat_map}
use Rattle.t1_grammar.specs.{Tables.{with_front, table_at}, TableLaws.{front_nil, turns, closes, breaks}}
use Rattle.t1_bytes.specs.{Segments.{segment, end, segment_eats}, FlatText.{starts_segment, flat_when, flat_of}}

-- the front of a buffer is the flat text so far, and what stands from an offset on is the rest of the file
pub record Joins (file now : List ℕ) (len at : ℕ) : Type 0 where
  pub front : len ≤ at
  pub within : at ≤ length now
  pub size : length now ≡ length file
  pub pieces : List (List ℕ)
  pub data_is : take len now ≡ flat_map (λ piece. piece) pieces
  pub so_far : with_front pieces (table_at segment end (drop at now)) ≡ table_at segment end file

-- at the start no segment was read
pub none_moved : (file : List ℕ) → Joins file file 0 0
none_moved file =
    record { front = omega arith; within = omega arith; size = refl; pieces = []; data_is = refl; so_far = sym (front_nil (table_at segment end file)) }

-- at the end of the segments the flat text is whole
pub joined_end : (file now : List ℕ) (len at : ℕ) (x : List ℕ × List ℕ) → starts_segment file ≡ true → Joins file now len at →
    end.read (drop at now) ≡ Some x → flat_of file ≡ Ok (take len now)
joined_end file now len at x s j e =
    ap (λ (b : Bool). (flat_when b file).read) s
    ∙ rw (closes segment end segment_eats j.pieces (drop at now) x _ e j.so_far) (ap (λ (u : List ℕ). Ok u) (sym j.data_is))

-- where neither a segment nor the end stands, the file is bad
pub joined_bad : (file now : List ℕ) (len at : ℕ) → starts_segment file ≡ true → Joins file now len at →
    end.read (drop at now) ≡ None → segment.read (drop at now) ≡ None → flat_of file ≡ Err at
joined_bad file now len at s j c e =
    let place : length file - length (drop at now) ≡ at = omega (arith, length-drop at now, j.within, j.size) in
    ap (λ (b : Bool). (flat_when b file).read) s
    ∙ rw (breaks segment end segment_eats j.pieces (drop at now) _ c e j.so_far) (ap (λ (n : ℕ). Err n) place)

regroup : (a b c d r : List ℕ) → (a ++ (b ++ (c ++ d))) ++ r ≡ (a ++ (b ++ c)) ++ (d ++ r)
regroup a b c d r =
    ap (λ (u : List ℕ). u ++ r) (ap (λ (u : List ℕ). a ++ u) (sym (append_assoc b c d)) ∙ sym (append_assoc a (b ++ c) d))
    ∙ append_assoc (a ++ (b ++ c)) d r

-- a segment is its header, its data and what stands after it
pub segment_place : (bytes : List ℕ) (x : List ℕ × List ℕ) → segment.read bytes ≡ Some x → (head : List ℕ) × (bytes ≡ head ++ (x.0 ++ x.1))
segment_place bytes x e =
    let s = segment.takes bytes x e in
    let a = s.2 in
    let b = a.5 in
    let c = b.5 in
    let text : s.0 ≡ a.1 ++ (b.1 ++ (c.1 ++ x.0)) =
    a.3 ∙ ap (λ (u : List ℕ). a.1 ++ u) (b.3 ∙ ap (λ (u : List ℕ). b.1 ++ u) (c.3 ∙ ap (λ (u : List ℕ). c.1 ++ u) c.5.0)) in
    (a.1 ++ (b.1 ++ c.1), s.1 ∙ (ap (λ (u : List ℕ). u ++ x.1) text ∙ regroup a.1 b.1 c.1 x.0 x.1))

-- a turn: the data of a segment is moved behind the flat text so far
pub moved : (file now : List ℕ) (len at size next : ℕ) (x : List ℕ × List ℕ) → Joins file now len at → end.read (drop at now) ≡ None →
    segment.read (drop at now) ≡ Some x
    → size ≡ length x.0 → next ≡ length now - length x.1 → Joins file (copy_within now (next - size) next len) (len + size) next
moved file now len at size next x j stop e is_size is_next =
    let p = segment_place (drop at now) x e in
    let whole : length now ≡ at + (length p.0 + (length x.0 + length x.1)) =
    omega (arith, length-drop at now, ap length p.1, length-append p.0 (x.0 ++ x.1), length-append x.0 x.1, j.within) in
    let place : next - size ≡ at + length p.0 = omega (arith, whole, is_size, is_next) in
    let many : next - (next - size) ≡ size = omega (arith, whole, is_size, is_next) in
    let source : drop (next - size) now ≡ x.0 ++ x.1 =
    ap (λ (k : ℕ). drop k now) place ∙ (sym (drop-drop (length p.0) at now) ∙ (ap (drop (length p.0)) p.1 ∙ drop_at p.0 (x.0 ++ x.1) (length p.0) refl)) in
    let room : next - (next - size) ≤ length (drop (next - size) now) = omega (arith, many, ap length source, length-append x.0 x.1, is_size) in
    let below : len ≤ length now = omega (arith, j.front, j.within) in
    let same = length-paste now len (drop (next - size) now) (next - (next - size)) (omega (arith, many, whole, is_size, j.front)) room in
    let text : take (len + size) (copy_within now (next - size) next len) ≡ take len now ++ x.0 =
    ap (λ (k : ℕ). take (len + k) (copy_within now (next - size) next len)) (sym many)
    ∙ (take-paste now len (drop (next - size) now) (next - (next - size)) below room
    ∙ ap (λ (u : List ℕ). take len now ++ u) (ap₂ take (many ∙ is_size) source ∙ take_at x.0 x.1 (length x.0) refl)) in
    let past : next ≡ (len + (next - (next - size))) + (next - (len + size)) = omega (arith, many, whole, is_size, is_next, j.front) in
    let after : drop next now ≡ x.1 =
    ap (λ (k : ℕ). drop k now) (omega (arith, whole, is_size, is_next))
    ∙ (sym (drop-drop (length x.0) (next - size) now) ∙ (ap (drop (length x.0)) source ∙ drop_at x.0 x.1 (length x.0) refl)) in
    let rest : drop next (copy_within now (next - size) next len) ≡ x.1 =
    ap (λ (k : ℕ). drop k (copy_within now (next - size) next len)) past
    ∙ (sym (drop-drop (next - (len + size)) (len + (next - (next - size))) (copy_within now (next - size) next len))
    ∙ (ap (drop (next - (len + size))) (drop-paste now len (drop (next - size) now) (next - (next - size)) below room)
    ∙ (drop-drop (next - (len + size)) (len + (next - (next - size))) now ∙ (ap (λ (k : ℕ). drop k now) (sym past) ∙ after)))) in
    record {
      front = omega (arith, whole, is_size, is_next, j.front);
      within = omega (arith, whole, is_next, same);
      size = same ∙ j.size;
      pieces = j.pieces ++ x.0 ∷ [];
      data_is = text ∙ (ap (λ (u : List ℕ). u ++ x.0) j.data_is ∙ flat_map_more (λ piece. piece) [] j.pieces x.0);
      so_far = ap (λ (u : List ℕ). with_front (j.pieces ++ x.0 ∷ []) (table_at segment end u)) rest
          ∙ turns segment end segment_eats j.pieces (drop at now) x _ stop e j.so_far;
    }
