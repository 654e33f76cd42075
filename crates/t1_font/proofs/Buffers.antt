-- Ranges of a buffer of which a part was decrypted where it stands.
use Rattle.std.proofs.Common.{◌≡◌, refl, sym, ap, subst, ◌∙◌, ℕ, ◌+◌, ◌-◌, ◌≤◌, arith, List, [], ◌∷◌, ◌++◌, map, length, take, take_all, drop}
use Rattle.std.proofs.lemmas.List.{append_assoc, map_push, length-append, length-drop, length-take-le, take-append-le, drop-append-le, drop-drop, drop_at, take-append-drop}
use Rattle.std.proofs.{lemmas.Slice.{drop-append-drop}, lemmas.List.Elements.{All-nil, All-cons, All-head, All-tail, All-append}}
use Rattle.std.specs.{declared.cmp.Ordering.{Ordering}, Cmp.{IsTotalOrder}, FinMap.{IsAntisymmetric}}
use Rattle.t1_bytes.{specs.Cipher.{decrypted, plain_of}, proofs.Ciphers.{length-decrypted}}
use Rattle.t1_join.specs.Entries.{entries_by}
use Rattle.t1_font.specs.declared.ranges.Range.{Range}
use Rattle.t1_text.specs.{declared.places.Place.{Place}, Places.{ending, bytes_at_place}, Entries.{map_of}}
use Rattle.t1_font.specs.Ranges.{bytes_at, IsInside, AllInside, NamesInside, named_at}
use Rattle.t1_text.proofs.MapLaws.{map_of-append}
use Rattle.std.specs.FinMap as fin

-- a longer buffer has the same bytes in the same ranges
bytes_longer : (buffer more : List ℕ) (r : Range) → IsInside (length buffer) r → bytes_at (buffer ++ more) r ≡ bytes_at buffer r
bytes_longer buffer more r h =
    ap (take (r.end - r.start)) (drop-append-le r.start buffer more (omega (arith, h.ordered, h.within)))
    ∙ take-append-le (r.end - r.start) (drop r.start buffer) more (omega (arith, length-drop r.start buffer, h.ordered, h.within))

inside_longer : (m n : ℕ) (r : Range) → m ≤ n → IsInside m r → IsInside n r
inside_longer m n r le h = record { ordered = h.ordered; within = omega (arith, le, h.within) }

-- an entry that is put at the end of others, in their map
pub pushed : {E K : Type 0} (h : E → K × List ℕ) {S : K → K → Ordering} → IsTotalOrder S → IsAntisymmetric S → (es : List E) (e : E) →
    map_of {R = S} (map h (es ++ e ∷ [])) ≡ fin.insert (map_of (map h es)) (h e).0 (h e).1
pushed h {S} o same es e = ap (map_of {R = S}) (map_push h es e) ∙ map_of-append o same (map h es) (h e)

-- charstrings inside the front of a buffer are inside a longer front
pub all_longer : {K : Type 0} (m n : ℕ) (es : List (K × Range)) → m ≤ n → AllInside m es → AllInside n es
all_longer m n es le h = λ k d l. inside_longer m n _ le (h k d l)

-- names inside the front of a buffer are inside a longer front
pub names_wider : (m n : ℕ) (es : List (Range × Range)) → m ≤ n → NamesInside m es → NamesInside n es
names_wider m n es le h = λ k d l. inside_longer m n _ le (h k d l)

-- ---- places from the end

-- the last bytes of the rest of a text are the last bytes of the text
pub ending_of : (n at : ℕ) (text : List ℕ) → at ≤ length text → n ≤ length (drop at text) → ending n (drop at text) ≡ drop (length text - n) text
ending_of n at text fits room =
    drop-drop (length (drop at text) - n) at text ∙ ap (λ k. drop k text) (omega (arith, length-drop at text, fits, room))

-- a charstring that was decrypted where it stands in a buffer, which was read up to `at`, and of which `left` bytes are
-- left behind its entry
pub record Decrypted (was now : List ℕ) (at left iv : ℕ) (body : Place) (cipher plain : Range) : Type 0 where
  pub fits : at ≤ length was
  pub room : body.len + body.behind ≤ length (drop at was)
  pub lead : iv ≤ body.len
  pub past : left ≤ body.behind
  pub start : cipher.start ≡ length was - (body.len + body.behind)
  pub end : cipher.end ≡ length was - body.behind
  pub is : now ≡ take cipher.start was ++ decrypted 4330 (bytes_at was cipher) ++ drop cipher.end was
  pub plain_start : plain.start ≡ cipher.start + iv
  pub plain_end : plain.end ≡ cipher.end

-- a name before the charstring
pub record CharStrings (was : List ℕ) (at : ℕ) (name body : Place) (part : Range) : Type 0 where
  pub room : name.len + name.behind ≤ length (drop at was)
  pub order : body.len + body.behind ≤ name.behind
  pub start : part.start ≡ length was - (name.len + name.behind)
  pub end : part.end ≡ length was - name.behind

module _ (was now : List ℕ) (at left iv : ℕ) (body : Place) (cipher plain : Range) (d : Decrypted was now at left iv body cipher plain) where
  long : body.len + body.behind ≤ length was - at
  long = omega (arith, d.room, length-drop at was)

  size : length (decrypted 4330 (bytes_at was cipher)) ≡ body.len
  size = length-decrypted (bytes_at was cipher) 4330 ∙ (length-take-le (cipher.end - cipher.start) (drop cipher.start was)
      (omega (arith, length-drop cipher.start was, d.start, d.end, long, d.fits)) ∙ omega (arith, d.start, d.end, long, d.fits))

  front : length (take cipher.start was) ≡ cipher.start
  front = length-take-le cipher.start was (omega (arith, d.start, d.fits))

  abbrev head : List ℕ
  head = take cipher.start was ++ decrypted 4330 (bytes_at was cipher)

  head_length : length head ≡ cipher.end
  head_length = length-append (take cipher.start was) (decrypted 4330 (bytes_at was cipher)) ∙ omega (arith, size, front, d.start, d.end, long, d.fits)

  by_parts : now ≡ take cipher.start was ++ (decrypted 4330 (bytes_at was cipher) ++ drop cipher.end was)
  by_parts = d.is ∙ append_assoc (take cipher.start was) (decrypted 4330 (bytes_at was cipher)) (drop cipher.end was)

  -- the buffer is as long as it was
  pub same_length : length now ≡ length was
  same_length = omega (arith, ap length d.is, length-append head (drop cipher.end was), head_length, length-drop cipher.end was, d.end)

  -- what stands before it stays
  bytes_stay : (r : Range) → IsInside cipher.start r → bytes_at now r ≡ bytes_at was r
  bytes_stay r h =
      let short : IsInside (length (take cipher.start was)) r = subst (λ n. IsInside n r) (sym front) h in
      ap (λ b. bytes_at b r) by_parts
      ∙ (bytes_longer (take cipher.start was) (decrypted 4330 (bytes_at was cipher) ++ drop cipher.end was) r short
      ∙ sym (ap (λ b. bytes_at b r) (sym (take-append-drop cipher.start was)) ∙ bytes_longer (take cipher.start was) (drop cipher.start was) r short))

  earlier : (r : Range) → IsInside at r → bytes_at now r ≡ bytes_at was r
  earlier r h = bytes_stay r (inside_longer at cipher.start r (omega (arith, d.start, long, d.fits)) h)

  -- charstrings that were gathered before stay
  pub entries_stay : {K M : Type 0} (f : K → M) (es : List (K × Range)) → AllInside at es → entries_by f (bytes_at now) es ≡ entries_by f (bytes_at was) es
  entries_stay f [] h = refl
  entries_stay f (e ∷ es) h =
      λ i. (f e.0, earlier e.1 (All-head (λ (e : _ × Range). IsInside at e.1) e es h) i)
      ∷ entries_stay f es (All-tail (λ (e : _ × Range). IsInside at e.1) e es h) i

  -- glyphs that were gathered before stay
  pub names_stay : (es : List (Range × Range)) → NamesInside at es → AllInside at es → map (named_at now) es ≡ map (named_at was) es
  names_stay [] g h = refl
  names_stay (e ∷ es) g h =
      let Name = λ (e : Range × Range). IsInside at e.0 in
      let Body = λ (e : Range × Range). IsInside at e.1 in
      λ i. (earlier e.0 (All-head Name e es g) i, earlier e.1 (All-head Body e es h) i) ∷ names_stay es (All-tail Name e es g) (All-tail Body e es h) i

  -- and what is left behind it
  pub rest_stays : drop (length now - left) now ≡ ending left (drop at was)
  rest_stays =
      (λ i. drop (same_length i - left) (d.is i))
      ∙ (drop-append-drop cipher.end was head (length was - left) (omega (arith, d.end, d.past)) head_length
      ∙ sym (ending_of left at was d.fits (omega (arith, d.past, d.room))))

  -- the charstring is plain behind its lead bytes
  pub plain_at : bytes_at now plain ≡ plain_of iv (bytes_at_place (drop at was) body)
  plain_at =
      let from : drop cipher.start was ≡ ending (body.len + body.behind) (drop at was) =
      ap (λ k. drop k was) d.start ∙ sym (ending_of (body.len + body.behind) at was d.fits d.room) in
      let here : bytes_at was cipher ≡ bytes_at_place (drop at was) body = λ i. take (short i) (from i) in
      let tail : drop cipher.start now ≡ decrypted 4330 (bytes_at was cipher) ++ drop cipher.end was =
      ap (drop cipher.start) by_parts ∙ drop_at (take cipher.start was) (decrypted 4330 (bytes_at was cipher) ++ drop cipher.end was) cipher.start front in
      let plain_long : plain.end - plain.start ≡ body.len - iv = omega (arith, d.plain_start, d.plain_end, d.start, d.end, long, d.fits) in
      let room_for : body.len - iv ≤ length (drop iv (decrypted 4330 (bytes_at was cipher))) =
      omega (arith, length-drop iv (decrypted 4330 (bytes_at was cipher)), size) in
      (λ i. take (plain_long i) (drop (d.plain_start i) now))
      ∙ (ap (take (body.len - iv)) (sym (drop-drop iv cipher.start now)
      ∙ (ap (drop iv) tail ∙ drop-append-le iv (decrypted 4330 (bytes_at was cipher)) (drop cipher.end was) (omega (arith, size, d.lead))))
      ∙ (take-append-le (body.len - iv) (drop iv (decrypted 4330 (bytes_at was cipher))) (drop cipher.end was) room_for
      ∙ (take_all (body.len - iv) (drop iv (decrypted 4330 (bytes_at was cipher))) (omega (arith, length-drop iv (decrypted 4330 (bytes_at was cipher)), size))
      ∙ ap (plain_of iv) here)))
    where
      short : cipher.end - cipher.start ≡ body.len
      short = omega (arith, d.start, d.end, long, d.fits)

  -- it stands before what d.is left
  pub plain_inside : IsInside (length now - left) plain
  plain_inside = record {
    ordered = omega (arith, d.plain_start, d.plain_end, d.start, d.end, d.lead, long, d.fits);
    within = omega (arith, d.plain_end, d.end, d.past, same_length);
  }

  -- what is left stands behind what was read before
  pub goes_on : at ≤ length now - left
  goes_on = omega (arith, same_length, long, d.fits, d.past)

  -- a name that stands before it stays
  module _ (name : Place) (part : Range) (n : CharStrings was at name body part) where
    name_before : IsInside cipher.start part
    name_before = record { ordered = omega (arith, n.start, n.end, n.room, length-drop at was); within = omega (arith, n.end, n.order, d.start) }

    -- the name is the one that was read
    pub name_at : bytes_at now part ≡ bytes_at_place (drop at was) name
    name_at =
        let from : drop part.start was ≡ ending (name.len + name.behind) (drop at was) =
        ap (λ k. drop k was) n.start ∙ sym (ending_of (name.len + name.behind) at was d.fits n.room) in
        bytes_stay part name_before ∙ (λ i. take (short i) (from i))
      where
        short : part.end - part.start ≡ name.len
        short = omega (arith, n.start, n.end, n.room, length-drop at was, d.fits)

    -- it stands before what is left
    pub name_inside : IsInside (length now - left) part
    name_inside = record { ordered = name_before.ordered; within = omega (arith, n.end, n.order, d.past, same_length) }

-- one entry more
pub with_one : {K : Type 0} (n : ℕ) (es more : List (K × Range)) (e : K × Range) → more ≡ es ++ e ∷ [] → AllInside n es → IsInside n e.1 → AllInside n more
with_one n es more e is h one =
    let Inside = λ (x : _ × Range). IsInside n x.1 in subst (AllInside n) (sym is) (All-append Inside es (e ∷ []) h (All-cons Inside e [] one (All-nil Inside)))

-- one name more
pub names_with_one : (n : ℕ) (es more : List (Range × Range)) (e : Range × Range) → more ≡ es ++ e ∷ [] → NamesInside n es → IsInside n e.0 → NamesInside n more
names_with_one n es more e is h one = let Inside =
    λ (x : Range × Range). IsInside n x.0 in subst (NamesInside n) (sym is) (All-append Inside es (e ∷ []) h (All-cons Inside e [] one (All-nil Inside)))
