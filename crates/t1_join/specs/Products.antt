-- Joins that are made of joins: of values that have to be the same, of pairs part by part, and of values within limits.
use Rattle.std.proofs.Common.{◌≡◌, refl, sym, ◌∙◌, subst, ◌⊎◌, inl, inr, ⊎_elim}
use Rattle.t1_join.specs.Join.{JoinLaws}

-- ---- values that have to be the same

abbrev pub Same : {M : Type 0} → M → M → Type 0
Same x y = x ≡ y

abbrev pub SameJoin : {M : Type 0} → M → M → M → Type 0
SameJoin x y z = (x ≡ y) × (z ≡ x)

pub same_laws : {M : Type 0} → JoinLaws {M = M} Same SameJoin
same_laws = record {
  some_answer = λ x y h. (x, (h, refl));
  only_where = λ x y z h. h.0;
  one_answer = λ x y z w h k. h.1 ∙ sym k.1;
  commutes = λ x y z h. (sym h.0, h.1 ∙ h.0);
  associates = λ x y z a b h k. (y, (sym h.0 ∙ sym h.1 ∙ k.0, refl), (h.0, k.1 ∙ h.1));
  idempotent = λ x. (refl, refl);
}

-- what joins each of two values that join joins their join; so it is of joins where nothing but pairs is compared, and not of those within limits
abbrev pub AgreesByPairs : {M : Type 0} → (M → M → Type 0) → (M → M → M → Type 0) → Type 0
AgreesByPairs {M} Agrees Joins = (x y z w : M) → Joins x y w → Agrees x z → Agrees y z → Agrees w z

pub same_by_pairs : {M : Type 0} → AgreesByPairs {M = M} Same SameJoin
same_by_pairs x y z w h a b = h.1 ∙ a

-- ---- pairs, part by part

abbrev pub BothAgree : {M N : Type 0} → (M → M → Type 0) → (N → N → Type 0) → M × N → M × N → Type 0
BothAgree A B x y = A x.0 y.0 × B x.1 y.1

abbrev pub BothJoin : {M N : Type 0} → (M → M → M → Type 0) → (N → N → N → Type 0) → M × N → M × N → M × N → Type 0
BothJoin J K x y z = J x.0 y.0 z.0 × K x.1 y.1 z.1

pub both_laws : {M N : Type 0} {A : M → M → Type 0} {J : M → M → M → Type 0} {B : N → N → Type 0} {K : N → N → N → Type 0} → JoinLaws A J → JoinLaws B K →
    JoinLaws (BothAgree A B) (BothJoin J K)
both_laws l m = record {
  some_answer = λ x y h. let a = l.some_answer x.0 y.0 h.0 in let b = m.some_answer x.1 y.1 h.1 in ((a.0, b.0), (a.1, b.1));
  only_where = λ x y z h. (l.only_where x.0 y.0 z.0 h.0, m.only_where x.1 y.1 z.1 h.1);
  one_answer = λ x y z w h k. λ i. (l.one_answer x.0 y.0 z.0 w.0 h.0 k.0 i, m.one_answer x.1 y.1 z.1 w.1 h.1 k.1 i);
  commutes = λ x y z h. (l.commutes x.0 y.0 z.0 h.0, m.commutes x.1 y.1 z.1 h.1);
  associates = λ x y z a b h k.
      let s = l.associates x.0 y.0 z.0 a.0 b.0 h.0 k.0 in
      let t = m.associates x.1 y.1 z.1 a.1 b.1 h.1 k.1 in
      ((s.0, t.0), (s.1, t.1), (s.2, t.2));
  idempotent = λ x. (l.idempotent x.0, m.idempotent x.1);
}

pub both_by_pairs : {M N : Type 0} {A : M → M → Type 0} {J : M → M → M → Type 0} {B : N → N → Type 0} {K : N → N → N → Type 0} →
    AgreesByPairs A J → AgreesByPairs B K → AgreesByPairs (BothAgree A B) (BothJoin J K)
both_by_pairs p q x y z w h a b = (p x.0 y.0 z.0 w.0 h.0 a.0 b.0, q x.1 y.1 z.1 w.1 h.1 a.1 b.1)

-- ---- values within limits

-- the join fits the limits; a value joins with itself whatever its size
abbrev pub FittingJoin : {M : Type 0} → (M → M → M → Type 0) → (M → Type 0) → M → M → M → Type 0
FittingJoin J Fits x y z = J x y z × (Fits z ⊎ ((x ≡ z) × (y ≡ z)))

abbrev pub FittingAgree : {M : Type 0} → (M → M → M → Type 0) → (M → Type 0) → M → M → Type 0
FittingAgree {M} J Fits x y = (z : M) × FittingJoin J Fits x y z

-- what is joined fits wherever the join does
module _ {M : Type 0} {A : M → M → Type 0} {J : M → M → M → Type 0} (l : JoinLaws A J)
    (Fits : M → Type 0) (falls : (x y z : M) → J x y z → Fits z → Fits x) where
  module _ (x y z a b : M) (h : FittingJoin J Fits x y a) (k : FittingJoin J Fits a z b) where
    light : Fits b → (c : M) × FittingJoin J Fits y z c × FittingJoin J Fits x c b
    light w =
        let s = l.associates x y z a b h.0 k.0 in
        (s.0, (s.1, inl (falls s.0 x b (l.commutes x s.0 b s.2) w)), (s.2, inl w))

    same : x ≡ a → y ≡ a → a ≡ b → z ≡ b → (c : M) × FittingJoin J Fits y z c × FittingJoin J Fits x c b
    same xa ya ab zb =
        let xy : x ≡ y = xa ∙ sym ya in
        let zy : z ≡ y = zb ∙ sym ab ∙ sym ya in
        let by : b ≡ y = sym ab ∙ sym ya in (
          y,
          (subst (λ (w : M). J y w y) (sym zy) (l.idempotent y), inr (refl, zy)),
          (subst (λ (w : M). J w y b) (sym xy) (subst (λ (w : M). J y y w) (sym by) (l.idempotent y)), inr (xa ∙ ab, sym by)),
        )

    grouped : (c : M) × FittingJoin J Fits y z c × FittingJoin J Fits x c b
    grouped = ⊎_elim (λ w. light w) (λ e. ⊎_elim (λ w. light (subst Fits e.0 w)) (λ d. same d.0 d.1 e.0 e.1) h.1) k.1

  pub fitting_laws : JoinLaws (FittingAgree J Fits) (FittingJoin J Fits)
  fitting_laws = record {
    some_answer = λ x y h. h;
    only_where = λ x y z h. (z, h);
    one_answer = λ x y z w h k. l.one_answer x y z w h.0 k.0;
    commutes = λ x y z h. (l.commutes x y z h.0, ⊎_elim (λ w. inl w) (λ e. inr (e.1, e.0)) h.1);
    associates = grouped;
    idempotent = λ x. (l.idempotent x, inr (refl, refl));
  }
