-- The loops that write entries and documents with lines.
use Rattle.std.proofs.Common.{◌≡◌, ◌≤◌, ◌<◌, ◌+◌, ℕ, Bool, true, false, cond, List, [], ◌∷◌, ◌++◌, length, get_or, take, drop, map, Option, Some, None, is_some, refl, sym, ap, ◌∙◌, append_assoc, Bor}
use Rattle.std.proofs.{Math.Bool.{or-false}, lemmas.Bool.{cond-true, cond-false}, lemmas.List.Elements.{filter-append}, lemmas.List.Folds.{list_any-append}}
use Rattle.std.proofs.lemmas.{List.{append-nil, drop_more, drop_all, take_more, take_all, map-append}, Slice.Eq.{bytes_eq-Decides}}
use Rattle.std.specs.{Prelude.{◌&&◌, ◌||◌, filter}, Str.{bytes_eq}}
use Rattle.t1_document.specs.{declared.documents.Place.{Place as CodePlace}, Documents.{Place}, Rewriting.{NewTexts, Fate, level_fate, fate_bytes, fated_bytes, is_seen}, Views.{place_view}}
use Rattle.t1_document.specs.Pooling.{Entry, entry_part, end_by, end_added, line_ends, entries}
use Rattle.t1_document.proofs.WriteLoop.{same_test}

-- ---- places, each with what becomes of it

module _ (f : Place → Fate) (last : List ℕ) (ps : List CodePlace) where
  -- the bytes that are left behind so many places
  abbrev pub fates_left : ℕ → List ℕ
  fates_left i = fated_bytes (map (λ p. (p, f p)) (map place_view (drop i ps))) last

  -- with those of one place more fewer are left
  pub one_fate : (i : ℕ) (d : CodePlace) → i < length ps → (all out before more : List ℕ) →
      before ≡ out ++ (get_or ps i d).before.now →
      more ≡ before ++ fate_bytes (f (place_view (get_or ps i d))) (place_view (get_or ps i d)) →
      out ++ fates_left i ≡ all → more ++ fates_left (i + 1) ≡ all
  unfolding fated_bytes
  one_fate i d h all out before more e k was =
      let p = place_view (get_or ps i d) in
      let own = fate_bytes (f p) p in
      ap (λ (t : List ℕ). t ++ fates_left (i + 1)) k
      ∙ (append_assoc before own (fates_left (i + 1))
      ∙ (ap (λ (t : List ℕ). t ++ (own ++ fates_left (i + 1))) e
      ∙ (append_assoc out p.before (own ++ fates_left (i + 1))
      ∙ (ap (λ (qs : List CodePlace). out ++ fated_bytes (map (λ q. (q, f q)) (map place_view qs)) last) (sym (drop_more ps i d h)) ∙ was))))

  -- in the end the last bytes are left
  pub all_fates : (i : ℕ) → length ps ≤ i → (all out : List ℕ) → out ++ fates_left i ≡ all → out ++ last ≡ all
  unfolding fated_bytes
  all_fates i le all out was =
      sym (ap (λ (qs : List CodePlace). out ++ fated_bytes (map (λ q. (q, f q)) (map place_view qs)) last) (drop_all i ps le)) ∙ was

-- the same of places that get the new texts of their names
pub one_level : (new : NewTexts) (last : List ℕ) (ps : List CodePlace) (i : ℕ) (d : CodePlace) → i < length ps →
    (all out before more : List ℕ) (o : Option (List ℕ)) → before ≡ out ++ (get_or ps i d).before.now → o ≡ new (get_or ps i d).name.now →
    more ≡ before ++ fate_bytes (level_fate o) (place_view (get_or ps i d)) →
    out ++ fates_left (λ p. level_fate (new p.name)) last ps i ≡ all → more ++ fates_left (λ p. level_fate (new p.name)) last ps (i + 1) ≡ all
one_level new last ps i d h all out before more o e is k was =
    one_fate (λ p. level_fate (new p.name)) last ps i d h all out before more e
    (k ∙ ap (λ (x : Option (List ℕ)). before ++ fate_bytes (level_fate x) (place_view (get_or ps i d))) is) was

-- ---- keys, of which some have entries

-- keys as values
abbrev values : List (Bor (List ℕ)) → List (List ℕ)
values ks = map (λ k. k.now) ks

module _ (start : List ℕ) (entry : List ℕ → Option Entry) (keys : List (Bor (List ℕ))) where
  -- the entries of so many keys were added, and it was noted how their lines end
  pub record Parted (i : ℕ) (out : List ℕ) (ends : NewTexts) : Type 0 where
    pub bytes : out ++ entries start entry (values (drop i keys)) ≡ entries start entry (values keys)
    pub each : (name : List ℕ) → ends name ≡ line_ends entry (values (take i keys)) name

  -- at the start none were
  pub no_part : (out : List ℕ) (ends : NewTexts) → out ≡ [] → ((name : List ℕ) → ends name ≡ None) → Parted 0 out ends
  no_part out ends e none = record { bytes = ap (λ (t : List ℕ). t ++ entries start entry (values keys)) e; each = none }

  -- the end of a key's lines, where the key is one of more
  end_more : (names : List (List ℕ)) (key name : List ℕ) →
      end_added (entry key) key name (line_ends entry names name) ≡ line_ends entry (names ++ key ∷ []) name
  end_more names key name =
      by_key (bytes_eq key name) refl
      ∙ sym (ap (λ (b : Bool). cond b (end_by (entry name)) None)
      (list_any-append (bytes_eq name) names (key ∷ []) ∙ ap (λ (b : Bool). is_seen names name || b) (or-false (bytes_eq name key) ∙ same_test name key)))
    where
      added : (o : Option Entry) (b : Bool) (end : Option (List ℕ)) → end_added o key name end ≡ cond (is_some o && bytes_eq key name) (end_by o) end
      added None b end = refl
      added (Some e) b end = refl

      with_own : (seen : Bool) (o p : Option Entry) → o ≡ p →
          cond (is_some o && true) (end_by o) (cond seen (end_by p) None) ≡ cond (seen || true) (end_by p) None
      with_own true None p e = refl
      with_own false None p e = ap end_by e
      with_own true (Some x) p e = ap end_by e
      with_own false (Some x) p e = ap end_by e

      without : (seen : Bool) (o p : Option Entry) → cond (is_some o && false) (end_by o) (cond seen (end_by p) None) ≡ cond (seen || false) (end_by p) None
      without true None p = refl
      without false None p = refl
      without true (Some x) p = refl
      without false (Some x) p = refl

      by_key : (b : Bool) → bytes_eq key name ≡ b →
          end_added (entry key) key name (line_ends entry names name) ≡ cond (is_seen names name || bytes_eq key name) (end_by (entry name)) None
      by_key true e =
          added (entry key) true (line_ends entry names name)
          ∙ (ap (λ (t : Bool). cond (is_some (entry key) && t) (end_by (entry key)) (line_ends entry names name)) e
          ∙ (with_own (is_seen names name) (entry key) (entry name) (ap entry ((bytes_eq-Decides key name).0 e))
          ∙ ap (λ (t : Bool). cond (is_seen names name || t) (end_by (entry name)) None) (sym e)))
      by_key false e =
          added (entry key) true (line_ends entry names name)
          ∙ (ap (λ (t : Bool). cond (is_some (entry key) && t) (end_by (entry key)) (line_ends entry names name)) e
          ∙ (without (is_seen names name) (entry key) (entry name)
          ∙ ap (λ (t : Bool). cond (is_seen names name || t) (end_by (entry name)) None) (sym e)))

  -- with those of one key more
  pub one_part : (i : ℕ) (d : Bor (List ℕ)) → i < length keys → (out more : List ℕ) (ends others : NewTexts) (o : Option Entry) →
      o ≡ entry (get_or keys i d).now → more ≡ out ++ entry_part start (get_or keys i d).now o →
      ((name : List ℕ) → others name ≡ end_added o (get_or keys i d).now name (ends name)) → Parted i out ends → Parted (i + 1) more others
  one_part i d h out more ends others o e k note was =
      let key = (get_or keys i d).now in
      let left = entries start entry (values (drop (i + 1) keys)) in
      let names : values (take (i + 1) keys) ≡ values (take i keys) ++ key ∷ [] =
      ap values (take_more keys i d h) ∙ map-append (λ k. k.now) (take i keys) (get_or keys i d ∷ []) in
      record {
        bytes = ap (λ (t : List ℕ). t ++ left) (k ∙ ap (λ (p : Option Entry). out ++ entry_part start key p) e)
            ∙ (append_assoc out (entry_part start key (entry key)) left
            ∙ (ap (λ (ks : List (Bor (List ℕ))). out ++ entries start entry (values ks)) (sym (drop_more keys i d h)) ∙ was.bytes));
        each = λ name.
            note name
            ∙ (ap (λ (p : Option Entry). end_added p key name (ends name)) e
            ∙ (ap (end_added (entry key) key name) (was.each name)
            ∙ (end_more (values (take i keys)) key name ∙ ap (λ (ks : List (List ℕ)). line_ends entry ks name) (sym names))));
      }

  -- in the end those of all were
  pub all_parts : (i : ℕ) → length keys ≤ i → (out : List ℕ) (ends : NewTexts) → Parted i out ends →
      (out ≡ entries start entry (values keys)) × ((name : List ℕ) → ends name ≡ line_ends entry (values keys) name)
  all_parts i le out ends was = (
    sym (append-nil out) ∙ (ap (λ (ks : List (Bor (List ℕ))). out ++ entries start entry (values ks)) (sym (drop_all i keys le)) ∙ was.bytes),
    λ name. was.each name ∙ ap (λ (ks : List (Bor (List ℕ))). line_ends entry (values ks) name) (take_all i keys le),
  )

-- ---- keys of some kind

module _ (f : List ℕ → Bool) (keys : List (Bor (List ℕ))) where
  -- those of one key more
  sorted_more : (i : ℕ) (d : Bor (List ℕ)) → i < length keys → filter f (values (take (i + 1) keys))
      ≡ filter f (values (take i keys)) ++ filter f ((get_or keys i d).now ∷ [])
  sorted_more i d h =
      ap (filter f) (ap values (take_more keys i d h) ∙ map-append (λ k. k.now) (take i keys) (get_or keys i d ∷ []))
      ∙ filter-append f (values (take i keys)) ((get_or keys i d).now ∷ [])

  -- a key of this kind
  pub key_kept : (i : ℕ) (d : Bor (List ℕ)) → i < length keys → (out more : List (List ℕ)) → f (get_or keys i d).now ≡ true →
      out ≡ filter f (values (take i keys)) → more ≡ out ++ (get_or keys i d).now ∷ [] → more ≡ filter f (values (take (i + 1) keys))
  key_kept i d h out more t was put =
      put
      ∙ (ap (λ (ks : List (List ℕ)). ks ++ (get_or keys i d).now ∷ []) was
      ∙ (ap (λ (ks : List (List ℕ)). filter f (values (take i keys)) ++ ks) (sym (cond-true _ ((get_or keys i d).now ∷ []) [] t)) ∙ sym (sorted_more i d h)))

  -- another
  pub key_passed : (i : ℕ) (d : Bor (List ℕ)) → i < length keys → (out : List (List ℕ)) → f (get_or keys i d).now ≡ false →
      out ≡ filter f (values (take i keys)) → out ≡ filter f (values (take (i + 1) keys))
  key_passed i d h out t was =
      was
      ∙ (sym (append-nil (filter f (values (take i keys))))
      ∙ (ap (λ (ks : List (List ℕ)). filter f (values (take i keys)) ++ ks) (sym (cond-false _ ((get_or keys i d).now ∷ []) [] t)) ∙ sym (sorted_more i d h)))
