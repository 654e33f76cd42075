-- The loops that write lines, words and pages.
use Rattle.std.proofs.{Common.{◌≡◌, ◌≤◌, ◌<◌, ◌+◌, ◌-◌, ℕ, suc, List, ◌++◌, length, get_or, drop, map, sym, ap, ◌∙◌, arith, append_assoc}, lemmas.List.{append-nil, drop_more, drop_all, length-append}}
use Rattle.std.specs.List.{flat_map}
use Rattle.t1_dsc.specs.{declared.fault.PagesFault.{PagesFault}, declared.fault.PagesFault.TheVariants.{TooLong, Memory}, Limits.{IsOver}}
use Rattle.t1_dsc.specs.{Parts.{PageLines}, Joining.{times, Frame, page_bytes, pages_bytes}}

-- ---- what each value of a list gives

module _ {X Y : Type 0} (f : Y → List ℕ) (view : X → Y) (xs : List X) where
  -- what so many gave was written, and what the others give is left
  abbrev pub Writing : ℕ → List ℕ → List ℕ → Type 0
  Writing i out all = out ++ flat_map f (map view (drop i xs)) ≡ all

  -- one more
  pub written_more : (i : ℕ) (d : X) → i < length xs → (out more all : List ℕ) →
      more ≡ out ++ f (view (get_or xs i d)) → Writing i out all → Writing (i + 1) more all
  written_more i d h out more all e was =
      ap (λ (t : List ℕ). t ++ flat_map f (map view (drop (i + 1) xs))) e
      ∙ (append_assoc out (f (view (get_or xs i d))) (flat_map f (map view (drop (i + 1) xs)))
      ∙ (ap (λ ys. out ++ flat_map f (map view ys)) (sym (drop_more xs i d h)) ∙ was))

  -- all of them
  pub written_all : (i : ℕ) → length xs ≤ i → (out all : List ℕ) → Writing i out all → out ≡ all
  written_all i le out all was = sym (append-nil out) ∙ (ap (λ ys. out ++ flat_map f (map view ys)) (sym (drop_all i xs le)) ∙ was)

-- ---- a word so many times

pub times_more : (i n : ℕ) (word : List ℕ) → i < n → (out more all : List ℕ) → more ≡ out ++ word →
    out ++ times (n - i) word ≡ all → more ++ times (n - (i + 1)) word ≡ all
times_more i n word h out more all e was =
    let one : n - i ≡ suc (n - (i + 1)) = omega arith in
    ap (λ (t : List ℕ). t ++ times (n - (i + 1)) word) e
    ∙ (append_assoc out word (times (n - (i + 1)) word) ∙ (ap (λ (k : ℕ). out ++ times k word) (sym one) ∙ was))

pub times_all : (i n : ℕ) (word : List ℕ) → n ≤ i → (out all : List ℕ) → out ++ times (n - i) word ≡ all → out ≡ all
times_all i n word le out all was =
    let none : n - i ≡ 0 = omega arith in
    sym (append-nil out) ∙ (ap (λ (k : ℕ). out ++ times k word) (sym none) ∙ was)

-- ---- pages

module _ {X : Type 0} (start : List ℕ) (frame : Frame) (view : X → PageLines) (ps : List X) (first : ℕ) (all : List ℕ) where
  -- so many pages were written, and this is the next number
  pub record Paging (i n : ℕ) (out : List ℕ) : Type 0 where
    pub next : n ≡ first + i
    pub bytes : out ++ pages_bytes start frame n (map view (drop i ps)) ≡ all

  pub paged_more : (i : ℕ) (d : X) → i < length ps → (n m : ℕ) (out more : List ℕ) → m ≡ n + 1 →
      more ≡ out ++ page_bytes start frame n (view (get_or ps i d)) → Paging i n out → Paging (i + 1) m more
  paged_more i d h n m out more e k was = record {
    next = omega (arith, e, was.next);
    bytes = rw (e, k) (append_assoc out (page_bytes start frame n (view (get_or ps i d))) (pages_bytes start frame (n + 1) (map view (drop (i + 1) ps)))
        ∙ (ap (λ ys. out ++ pages_bytes start frame n (map view ys)) (sym (drop_more ps i d h)) ∙ was.bytes));
  }

  pub paged_all : (i : ℕ) → length ps ≤ i → (n : ℕ) (out : List ℕ) → Paging i n out → out ≡ all
  paged_all i le n out was =
      sym (append-nil out) ∙ (ap (λ ys. out ++ pages_bytes start frame n (map view ys)) (sym (drop_all i ps le)) ∙ was.bytes)

  -- what was written is no longer than all of it
  pub paged_over : (limit i n : ℕ) (out : List ℕ) → Paging i n out → limit < length out → limit < length all
  paged_over limit i n out was lt =
      omega (arith, lt, ap length was.bytes, length-append out (pages_bytes start frame n (map view (drop i ps))))

-- ---- bytes over a limit

-- what is over a limit is so with more behind it
pub over_more : (limit : ℕ) (bytes rest whole : List ℕ) (fault : PagesFault) → bytes ++ rest ≡ whole → IsOver limit bytes fault → IsOver limit whole fault
over_more limit bytes rest whole TooLong e h = omega (arith, h, ap length e, length-append bytes rest)
over_more limit bytes rest whole Memory e h = tt
