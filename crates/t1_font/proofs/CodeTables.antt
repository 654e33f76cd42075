-- The names of codes that stand at the places of their codes.
use Rattle.std.proofs.Common.{true≢false, ◌++◌, map, not, drop, ◌≡◌, ◌⊎◌, inl, inr, ℕ, zero, suc, ◌+◌, ◌-◌, ◌<◌, ◌≤◌, T, cond, Bool, true, false, List}
use Rattle.std.proofs.Common.{[], ◌∷◌, length, replicate, Option, Some, None, refl, sym, ap, subst, ◌∙◌, arith, slice_index_or, slice_set}
use Rattle.std.proofs.{lemmas.Bool.{cases_lt}, lemmas.List.{get_or-set_same, get_or-set_other, length-set, drop_more}, Math.ListN.{get_or-replicate}}
use Rattle.std.specs.{Borrow.{Bor}, Prelude.{unwrap_or, filter}, Str.{bytes_eq}, Ordering.{nat_cmp, is_lt, is_eq}, declared.cmp.Ordering.{Ordering}, List.{CopiedTo, SameBelow, SameFrom}}
use Rattle.std.specs.{Cmp.{nat_cmp_is, nat_cmp_total}, FinMap.Entries.{by_order, put, find, below_all, is_sorted}, FinMap.{nat_cmp-IsAntisymmetric}}
use Rattle.std.specs.declared.cmp.Ordering.TheVariants.{Less, Equal, Greater}
use Rattle.t1_font.specs.{CodeNames.{codes_named, AreNames, Marked}, FontValue.{SparseArray, notdef}, Gathering.{gathered_name, named_from, copied_names}}
use Rattle.t1_text.specs.Entries.{has_name}
use Rattle.t1_text.proofs.MapLaws.{and_T, left_T, right_T, less_apart}
use Rattle.std.specs.FinMap as fin

less_is : (o : Ordering) → T (is_lt o) → o ≡ Less
less_is Less h = refl
less_is Equal h = absurd h
less_is Greater h = absurd h

abbrev Names : Type 0
Names = List (Bor (List ℕ))

is_less : (c k : ℕ) → c < k → T (is_lt (nat_cmp c k))
is_less c k below = subst (λ r. T (is_lt r)) (nat_cmp_is c k Less below) tt

-- the codes of the names from one on are not below it
codes_above : (names : Names) (named : List Bool) (c k : ℕ) → c < k → T (below_all nat_cmp c (codes_named k names named))
codes_above [] named c k below = tt
codes_above (n ∷ names) [] c k below = tt
codes_above (n ∷ names) (true ∷ named) c k below = and_T _ _ (is_less c k below) (codes_above names named c (suc k) (omega (arith, below)))
codes_above (n ∷ names) (false ∷ named) c k below = codes_above names named c (suc k) (omega (arith, below))

-- codes that have names rise
pub codes_rise : (names : Names) (named : List Bool) (c : ℕ) → T (is_sorted nat_cmp (codes_named c names named))
codes_rise [] named c = tt
codes_rise (n ∷ names) [] c = tt
codes_rise (n ∷ names) (true ∷ named) c = and_T _ _ (codes_above names named c (suc c) (omega arith)) (codes_rise names named (suc c))
codes_rise (n ∷ names) (false ∷ named) c = codes_rise names named (suc c)

-- the codes that were named, each with its name
abbrev pub table : Names → List Bool → SparseArray
table names named = fin.from_sorted (codes_named 0 names named)

none_left : (n c : ℕ) (name : Bor (List ℕ)) → codes_named c (replicate n name) (replicate n false) ≡ []
none_left zero c name = refl
none_left (suc n) c name = none_left n (suc c) name

-- codes of which none has a name
pub none_named : (n : ℕ) (name : Bor (List ℕ)) → table (replicate n name) (replicate n false) ≡ fin.empty
none_named n name = fin.empty_of_len _ (fin.len-entries _
    ∙ ap length (fin.entries-from_sorted nat_cmp _ (codes_rise (replicate n name) (replicate n false) 0) ∙ none_left n 0 name))

-- ---- one code

absent : (q : ℕ) (es : List (ℕ × List ℕ)) → T (below_all nat_cmp q es) → find nat_cmp q es ≡ None
absent q [] h = refl
absent q (e ∷ es) h =
    ap (λ b. cond b (Some e.1) (find nat_cmp q es)) (less_apart (nat_cmp q e.0) (left_T _ _ h)) ∙ absent q es (right_T _ _ h)

equal : (q c : ℕ) → q ≡ c → Equal ≡ nat_cmp q c
equal q c same = nat_cmp_is q c Equal same

greater : (q c : ℕ) → c < q → Greater ≡ nat_cmp q c
greater q c above = nat_cmp_is q c Greater above

-- the name of a code, if it was named
abbrev pub if_named : Bool → Bor (List ℕ) → Option (List ℕ)
if_named true n = Some n.now
if_named false n = None

find_code : (names : Names) (named : List Bool) (c k q : ℕ) (d : Bor (List ℕ)) → q ≡ c + k → k < length names → k < length named →
    find nat_cmp q (codes_named c names named) ≡ if_named (slice_index_or named k false) (slice_index_or names k d)
find_code [] named c k q d at below short = absurd (omega (arith, below))
find_code (n ∷ names) [] c k q d at below short = absurd (omega (arith, short))
find_code (n ∷ names) (false ∷ named) c zero q d at below short =
    absent q (codes_named (suc c) names named) (codes_above names named q (suc c) (omega (arith, at)))
find_code (n ∷ names) (false ∷ named) c (suc k) q d at below short =
    find_code names named (suc c) k q d (omega (arith, at)) (omega (arith, below)) (omega (arith, short))
find_code (n ∷ names) (true ∷ named) c zero q d at below short =
    ap (λ r. cond (is_eq r) (Some n.now) (find nat_cmp q (codes_named (suc c) names named))) (sym (equal q c (omega (arith, at))))
find_code (n ∷ names) (true ∷ named) c (suc k) q d at below short =
    ap (λ r. cond (is_eq r) (Some n.now) (find nat_cmp q (codes_named (suc c) names named))) (sym (greater q c (omega (arith, at))))
    ∙ find_code names named (suc c) k q d (omega (arith, at)) (omega (arith, below)) (omega (arith, short))

-- behind the last code there is none
find_beyond : (names : Names) (named : List Bool) (c q : ℕ) → c + length names ≤ q → find nat_cmp q (codes_named c names named) ≡ None
find_beyond [] named c q beyond = refl
find_beyond (n ∷ names) [] c q beyond = refl
find_beyond (n ∷ names) (false ∷ named) c q beyond = find_beyond names named (suc c) q (omega (arith, beyond))
find_beyond (n ∷ names) (true ∷ named) c q beyond =
    ap (λ r. cond (is_eq r) (Some n.now) (find nat_cmp q (codes_named (suc c) names named))) (sym (greater q c (omega (arith, beyond))))
    ∙ find_beyond names named (suc c) q (omega (arith, beyond))

-- a code has the name at its place, if it was named
pub code_at : (names : Names) (named : List Bool) (code : ℕ) (d : Bor (List ℕ)) → code < length names → code < length named →
    fin.get (table names named) code ≡ if_named (slice_index_or named code false) (slice_index_or names code d)
code_at names named code d below short =
    fin.get-from_sorted nat_cmp _ code (codes_rise names named 0) ∙ find_code names named 0 code code d (omega arith) below short

pub code_beyond : (names : Names) (named : List Bool) (code : ℕ) → length names ≤ code → fin.get (table names named) code ≡ None
code_beyond names named code beyond = fin.get-from_sorted nat_cmp _ code (codes_rise names named 0) ∙ find_beyond names named 0 code (omega (arith, beyond))

first_put : (k : ℕ) (v : List ℕ) (es : List (ℕ × List ℕ)) → T (below_all nat_cmp k es) → (k, v) ∷ es ≡ put nat_cmp k v es
first_put k v [] h = refl
first_put k v (e ∷ es) h = ap (λ r. by_order r ((k, v) ∷ e ∷ es) ((e.0, v) ∷ es) (e ∷ put nat_cmp k v es)) (sym (less_is (nat_cmp k e.0) (left_T _ _ h)))

put_code : (names : Names) (named : List Bool) (c k q : ℕ) (n : Bor (List ℕ)) → q ≡ c + k → k < length names → k < length named →
    codes_named c (slice_set names k n) (slice_set named k true) ≡ put nat_cmp q n.now (codes_named c names named)
put_code [] named c k q n at below short = absurd (omega (arith, below))
put_code (m ∷ names) [] c k q n at below short = absurd (omega (arith, short))
put_code (m ∷ names) (false ∷ named) c zero q n at below short =
    let same : c ≡ q = omega (arith, at) in
    ap (λ x. (x, n.now) ∷ codes_named (suc c) names named) same
    ∙ first_put q n.now (codes_named (suc c) names named) (codes_above names named q (suc c) (omega (arith, at)))
put_code (m ∷ names) (false ∷ named) c (suc k) q n at below short =
    put_code names named (suc c) k q n (omega (arith, at)) (omega (arith, below)) (omega (arith, short))
put_code (m ∷ names) (true ∷ named) c zero q n at below short =
    let rest = codes_named (suc c) names named in
    ap (λ r. by_order r ((q, n.now) ∷ (c, m.now) ∷ rest) ((c, n.now) ∷ rest) ((c, m.now) ∷ put nat_cmp q n.now rest)) (equal q c (omega (arith, at)))
put_code (m ∷ names) (true ∷ named) c (suc k) q n at below short =
    let rest = codes_named (suc c) names named in
    ap (λ es. (c, m.now) ∷ es) (put_code names named (suc c) k q n (omega (arith, at)) (omega (arith, below)) (omega (arith, short)))
    ∙ ap (λ r. by_order r ((q, n.now) ∷ (c, m.now) ∷ rest) ((c, n.now) ∷ rest) ((c, m.now) ∷ put nat_cmp q n.now rest)) (greater q c (omega (arith, at)))

-- a name at the place of a code is put at the code
pub code_put : (names : Names) (named : List Bool) (code : ℕ) (n : Bor (List ℕ)) → code < length names → code < length named →
    table (slice_set names code n) (slice_set named code true) ≡ fin.insert (table names named) code n.now
code_put names named code n below short =
    fin.same_entries_map _ _
    (fin.entries-from_sorted nat_cmp _ (codes_rise (slice_set names code n) (slice_set named code true) 0)
    ∙ (put_code names named 0 code code n (omega arith) below short
    ∙ (ap (put nat_cmp code n.now) (sym (fin.entries-from_sorted nat_cmp _ (codes_rise names named 0)))
    ∙ sym (fin.entries-insert nat_cmp_total (table names named) code n.now))))

-- the name of a code: that of no glyph if it wasn't named
pub named_at : (names : Names) (named : List Bool) (code : ℕ) (d : Bor (List ℕ)) → AreNames names named → code < 256 →
    (slice_index_or names code d).now ≡ gathered_name (table names named) code
named_at names named code d h below =
    by_mark (slice_index_or named code false) (h.unnamed code d below)
    ∙ ap (λ o. unwrap_or o notdef) (sym (code_at names named code d (omega (arith, h.names_all, below)) (omega (arith, h.named_all, below))))
  where
    name : Bor (List ℕ)
    name = slice_index_or names code d

    by_mark : (b : Bool) → (b ≡ false → name.now ≡ notdef) → name.now ≡ unwrap_or (if_named b name) notdef
    by_mark true k = refl
    by_mark false k = k refl

-- ---- copies

apart : (q k : ℕ) → (q < k) ⊎ (k < q) → is_eq (nat_cmp q k) ≡ false
apart q k (inl h) = ap is_eq (sym (nat_cmp_is q k Less h))
apart q k (inr h) = ap is_eq (sym (greater q k h))

-- outside of the codes of a copy
abbrev pub Outside : ℕ → ℕ → ℕ → Type 0
Outside to n q = (q < to) ⊎ (to + n ≤ q)

-- another code keeps its name
named_out : (m b : SparseArray) (from to n q : ℕ) → Outside to n q → fin.get (named_from m to (copied_names b from n)) q ≡ fin.get m q
named_out m b from to zero q h = refl
named_out m b from to (suc n) q h =
    named_out (fin.insert m to (gathered_name b from)) b (suc from) (suc to) n q (further h)
    ∙ (fin.get-insert nat_cmp_total m to (gathered_name b from) q ∙ ap (λ t. cond t (Some (gathered_name b from)) (fin.get m q)) (apart q to (other h)))
  where
    further : Outside to (suc n) q → Outside (suc to) n q
    further (inl k) = inl (omega (arith, k))
    further (inr k) = inr (omega (arith, k))

    other : Outside to (suc n) q → (q < to) ⊎ (to < q)
    other (inl k) = inl k
    other (inr k) = inr (omega (arith, k))

-- a code of the copy gets the name of its own
named_in : (m b : SparseArray) (from to n q : ℕ) → to ≤ q → q < to + n →
    fin.get (named_from m to (copied_names b from n)) q ≡ Some (gathered_name b (from + (q - to)))
named_in m b from to zero q above below = absurd (omega (arith, above, below))
named_in m b from to (suc n) q above below =
    by_first (cases_lt to q) (λ k. named_in (fin.insert m to (gathered_name b from)) b (suc from) (suc to) n q (omega (arith, k)) (omega (arith, below)))
  where
    again : SparseArray
    again = fin.insert m to (gathered_name b from)

    by_first : (to < q) ⊎ (q ≤ to) →
        (to < q → fin.get (named_from again (suc to) (copied_names b (suc from) n)) q ≡ Some (gathered_name b (suc from + (q - suc to)))) →
        fin.get (named_from again (suc to) (copied_names b (suc from) n)) q ≡ Some (gathered_name b (from + (q - to)))
    by_first (inl k) later =
        let place : suc from + (q - suc to) ≡ from + (q - to) = omega (arith, k) in
        later k ∙ ap (λ (c : ℕ). Some (gathered_name b c)) place
    by_first (inr k) later =
        let here : q ≡ to = omega (arith, above, k) in
        let place : from ≡ from + (q - to) = omega (arith, k) in
        named_out again b (suc from) (suc to) n q (inl (omega (arith, k)))
        ∙ (fin.get-insert nat_cmp_total m to (gathered_name b from) q
        ∙ (ap (λ r. cond (is_eq r) (Some (gathered_name b from)) (fin.get m q)) (sym (equal q to here)) ∙ ap (λ (c : ℕ). Some (gathered_name b c)) place))

-- the names of a range that are copied to a range, whose codes are then named
pub code_copied : (names new : Names) (named marks : List Bool) (from to n : ℕ) → AreNames names named → length new ≡ 256 → from + n ≤ 256 → to + n ≤ 256 →
    CopiedTo names new from to n → SameBelow names new to → SameFrom names new (to + n) → Marked named marks to (to + n) →
    table new marks ≡ named_from (table names named) to (copied_names (table names named) from n)
code_copied names new named marks from to n h all fits room copied low high marked =
    fin.same_map nat_cmp_total nat_cmp-IsAntisymmetric _ _ (λ q. by_place names refl q (cases_lt q 256) (cases_lt q to) (cases_lt q (to + n)))
  where
    old : SparseArray
    old = table names named

    goal : ℕ → Type 0
    goal q = fin.get (table new marks) q ≡ fin.get (named_from old to (copied_names old from n)) q

    outside : (q : ℕ) (d : Bor (List ℕ)) → q < 256 → slice_index_or new q d ≡ slice_index_or names q d →
        slice_index_or marks q false ≡ slice_index_or named q false → Outside to n q → goal q
    outside q d short name mark out =
        code_at new marks q d (omega (arith, all, short)) (omega (arith, marked.count, h.named_all, short))
        ∙ ((λ i. if_named (mark i) (name i))
        ∙ (sym (code_at names named q d (omega (arith, h.names_all, short)) (omega (arith, h.named_all, short)))
        ∙ sym (named_out old old from to n q out)))

    by_place : (list : Names) → names ≡ list → (q : ℕ) → (q < 256) ⊎ (256 ≤ q) → (q < to) ⊎ (to ≤ q) → (q < to + n) ⊎ (to + n ≤ q) → goal q
    by_place [] is q short lo hi = absurd (omega (arith, h.names_all, ap length is))
    by_place (d ∷ list) is q (inr beyond) lo hi =
        code_beyond new marks q (omega (arith, all, beyond))
        ∙ (sym (code_beyond names named q (omega (arith, h.names_all, beyond))) ∙ sym (named_out old old from to n q (inr (omega (arith, room, beyond)))))
    by_place (d ∷ list) is q (inl short) (inl k) hi = outside q d short (low q d k) (marked.below q k) (inl k)
    by_place (d ∷ list) is q (inl short) (inr k) (inr l) = outside q d short (high q d l) (marked.above q l) (inr l)
    by_place (d ∷ list) is q (inl short) (inr k) (inl l) =
        code_at new marks q d (omega (arith, all, short)) (omega (arith, marked.count, h.named_all, short))
        ∙ ((λ i. if_named (marked.here q k l (omega (arith, h.named_all, short)) i) (copied q d k l i))
        ∙ (ap Some (named_at names named (from + (q - to)) d h (omega (arith, fits, k, l))) ∙ sym (named_in old old from to n q k l)))

-- ---- what holds of the names

-- before any code is named
pub none_are : (name : Bor (List ℕ)) → name.now ≡ notdef → AreNames (replicate 256 name) (replicate 256 false)
none_are name is = record {
  names_all = refl;
  named_all = refl;
  unnamed = λ k n below _. ap (λ (m : Bor (List ℕ)). m.now) (get_or-replicate 256 k name n below) ∙ is;
}

-- behind a put
pub put_are : (names : Names) (named : List Bool) (code : ℕ) (n : Bor (List ℕ)) → AreNames names named → code < 256 →
    AreNames (slice_set names code n) (slice_set named code true)
put_are names named code n h below = record {
  names_all = length-set names code n ∙ h.names_all;
  named_all = length-set named code true ∙ h.named_all;
  unnamed = λ k d small e. by_place k d small e (cases_lt k code) (cases_lt code k);
}
  where
    other : (k : ℕ) (d : Bor (List ℕ)) → k < 256 → slice_index_or (slice_set named code true) k false ≡ false → ¬ (k ≡ code) →
        (slice_index_or (slice_set names code n) k d).now ≡ notdef
    other k d small e not =
        ap (λ (m : Bor (List ℕ)). m.now) (get_or-set_other names code k n d not)
        ∙ h.unnamed k d small (sym (get_or-set_other named code k true false not) ∙ e)

    by_place : (k : ℕ) (d : Bor (List ℕ)) → k < 256 → slice_index_or (slice_set named code true) k false ≡ false → (k < code) ⊎ (code ≤ k) →
        (code < k) ⊎ (k ≤ code) → (slice_index_or (slice_set names code n) k d).now ≡ notdef
    by_place k d small e (inl l) r = other k d small e (λ same. omega (arith, l, same))
    by_place k d small e (inr l) (inl r) = other k d small e (λ same. omega (arith, r, same))
    by_place k d small e (inr l) (inr r) =
        let same : k ≡ code = omega (arith, l, r) in
        let there : slice_index_or (slice_set named code true) k false ≡ true =
        ap (λ (c : ℕ). slice_index_or (slice_set named code true) c false) same ∙ get_or-set_same named code true false (omega (arith, h.named_all, below)) in
        absurd (true≢false (sym there ∙ e))

-- behind a copy
pub copied_are : (names new : Names) (named marks : List Bool) (to n : ℕ) → AreNames names named → length new ≡ length names → to + n ≤ 256 →
    SameBelow names new to → SameFrom names new (to + n) → Marked named marks to (to + n) → AreNames new marks
copied_are names new named marks to n h all room low high marked = record {
  names_all = all ∙ h.names_all;
  named_all = marked.count ∙ h.named_all;
  unnamed = λ k d small e. by_place k d small e (cases_lt k to) (cases_lt k (to + n));
}
  where
    by_place : (k : ℕ) (d : Bor (List ℕ)) → k < 256 → slice_index_or marks k false ≡ false → (k < to) ⊎ (to ≤ k) → (k < to + n) ⊎ (to + n ≤ k) →
        (slice_index_or new k d).now ≡ notdef
    by_place k d small e (inl l) r = ap (λ (m : Bor (List ℕ)). m.now) (low k d l) ∙ h.unnamed k d small (sym (marked.below k l) ∙ e)
    by_place k d small e (inr l) (inr r) = ap (λ (m : Bor (List ℕ)). m.now) (high k d r) ∙ h.unnamed k d small (sym (marked.above k r) ∙ e)
    by_place k d small e (inr l) (inl r) = absurd (true≢false (sym (marked.here k l r (omega (arith, h.named_all, small))) ∙ e))

-- ---- marks

-- before the first is marked
pub none_marked : (named : List Bool) (from : ℕ) → Marked named named from from
none_marked named from = record {
  count = refl;
  here = λ k above below short. absurd (omega (arith, above, below));
  below = λ k h. refl;
  above = λ k h. refl;
}

-- one more is marked
pub one_marked : (old named : List Bool) (from i : ℕ) → from ≤ i → i < length old → Marked old named from i → Marked old (slice_set named i true) from (i + 1)
one_marked old named from i le short h = record {
  count = length-set named i true ∙ h.count;
  here = λ k above below small. by_last k above small (cases_lt k i) below;
  below = λ k below. get_or-set_other named i k true false (λ same. omega (arith, same, below, le)) ∙ h.below k below;
  above = λ k above. get_or-set_other named i k true false (λ same. omega (arith, same, above)) ∙ h.above k (omega (arith, above));
}
  where
    by_last : (k : ℕ) → from ≤ k → k < length old → (k < i) ⊎ (i ≤ k) → k < i + 1 → slice_index_or (slice_set named i true) k false ≡ true
    by_last k above small (inl l) below = get_or-set_other named i k true false (λ same. omega (arith, same, l)) ∙ h.here k above l small
    by_last k above small (inr l) below =
        let same : k ≡ i = omega (arith, l, below) in
        ap (λ (c : ℕ). slice_index_or (slice_set named i true) c false) same ∙ get_or-set_same named i true false (omega (arith, h.count, short))

-- ---- what is kept

-- of the codes from one on, those with a name, each with it
abbrev pub left_named : Names → List Bool → ℕ → List (ℕ × List ℕ)
left_named names named code = filter has_name (codes_named code (drop code names) (drop code named))

next_left : (names : Names) (named : List Bool) (code : ℕ) (d : Bor (List ℕ)) (b : Bool) → code < length names → code < length named →
    slice_index_or named code false ≡ b → left_named names named code
    ≡ filter has_name (cond b ((code, (slice_index_or names code d).now) ∷ codes_named (code + 1) (drop (code + 1) names) (drop (code + 1) named))
    (codes_named (code + 1) (drop (code + 1) names) (drop (code + 1) named)))
next_left names named code d b below short mark =
    let next : suc code ≡ code + 1 = omega arith in
    (λ i. filter has_name (codes_named code (drop_more names code d below i) (drop_more named code false short i)))
    ∙ (λ i. filter has_name (cond (mark i) ((code, (slice_index_or names code d).now) ∷ codes_named (next i) (drop (code + 1) names) (drop (code + 1) named))
    (codes_named (next i) (drop (code + 1) names) (drop (code + 1) named))))

-- a code that wasn't named is passed
pub unnamed_passed : (names : Names) (named : List Bool) (code : ℕ) → code < length names → code < length named → slice_index_or named code false ≡ false →
    left_named names named code ≡ left_named names named (code + 1)
unnamed_passed [] named code below short mark = absurd (omega (arith, below))
unnamed_passed (n ∷ names) named code below short mark = next_left (n ∷ names) named code n false below short mark

-- and so is one whose name is that of no glyph
pub notdef_passed : (names : Names) (named : List Bool) (code : ℕ) (d : Bor (List ℕ)) → code < length names → code < length named →
    slice_index_or named code false ≡ true → true ≡ bytes_eq notdef (slice_index_or names code d).now →
    left_named names named code ≡ left_named names named (code + 1)
notdef_passed names named code d below short mark none =
    next_left names named code d true below short mark
    ∙ ap (λ (b : Bool). cond (not b) ((code, (slice_index_or names code d).now) ∷ left_named names named (code + 1)) (left_named names named (code + 1)))
    (sym none)

-- any other is kept
pub name_kept : (names : Names) (named : List Bool) (code : ℕ) (d : Bor (List ℕ)) → code < length names → code < length named →
    slice_index_or named code false ≡ true → false ≡ bytes_eq notdef (slice_index_or names code d).now →
    left_named names named code ≡ (code, (slice_index_or names code d).now) ∷ left_named names named (code + 1)
name_kept names named code d below short mark some =
    next_left names named code d true below short mark
    ∙ ap (λ (b : Bool). cond (not b) ((code, (slice_index_or names code d).now) ∷ left_named names named (code + 1)) (left_named names named (code + 1)))
    (sym some)

-- one more of what is mapped stands before what is left
pub map_behind : {A B : Type 0} (f : A → B) (xs : List A) (x : A) (ys : List B) → map f (xs ++ x ∷ []) ++ ys ≡ map f xs ++ (f x ∷ ys)
map_behind f [] x ys = refl
map_behind f (y ∷ xs) x ys = ap (λ l. f y ∷ l) (map_behind f xs x ys)
