use Rattle.std.proofs.{Common.{◌+◌, ℕ, List, map, Bor, Vec, sym, ap, subst, ◌∙◌}, lemmas.List.{drop_more, map-append}}
use Rattle.t1_document.{specs.declared.texts.Texts.{Texts}, proofs.{NameLoop.{Gathers, all_gathered, seen_before, seen_first}, names.names_of.Goals.{then-is_none+in_ok-note+in_ok-push, else-is_none}}}
use Rattle.t1_document.proofs.names.names_of.Goals as goal

-- names as values
abbrev values : List (Bor (List ℕ)) → List (List ℕ)
values names = map (λ n. n.now) names

pub places-preserved : goal.places-preserved
places-preserved c =
    let ps = c.args.places.now in
    let i = c.places.place-index in
    let out : List (List ℕ) = values c.places.names.items in
    elim c.if-is_none.branch [
      | then-is_none+in_ok-note+in_ok-push w ↦
          subst (λ (t : Texts). Gathers ps (i + 1) (values c.if-is_none.names.items) t) (sym w.seen-is)
          (seen_first ps i _ (drop_more ps i _ c.places-test.true) out c.places.seen c.get.result c.is_none.result c.get.ensures c.is_none.ensures
          c.places.invariant w.note.new.seen (values c.if-is_none.names.items) w.if-is_none.true w.in_ok-note.ensures
          (ap (λ (v : Vec (Bor (List ℕ)) _). values v.items) w.names-is
          ∙ (ap values w.in_ok-push.ensures.items ∙ map-append (λ n. n.now) c.places.names.items _)))
      | else-is_none w ↦
          subst (λ (t : Texts). Gathers ps (i + 1) (values c.if-is_none.names.items) t) (sym w.seen-is)
          (subst (λ (ns : List (List ℕ)). Gathers ps (i + 1) ns c.places.seen) (ap (λ (v : Vec (Bor (List ℕ)) _). values v.items) (sym w.names-is))
          (seen_before ps i _ (drop_more ps i _ c.places-test.true) out c.places.seen c.get.result c.is_none.result c.get.ensures c.is_none.ensures
          c.places.invariant w.if-is_none.false))
    ]

pub returns : goal.returns
returns c = all_gathered c.args.places.now c.places.place-index _ c.places.seen c.places-test.false c.places.invariant
