use Rattle.std.proofs.Common.{ap, sym, ◌∙◌, refl}
use Rattle.t1_join.{specs.TableMeaning.{first_meanings}, proofs.EntryLemmas.{has_entries, meaning_insert}}
use Rattle.std.specs.FinMap as fin
use Rattle.t1_join.proofs.table_builder.TableBuilder.add.Goals as goal

pub returns-then-contains_key-clause-ok : goal.returns-then-contains_key-clause-ok
returns-then-contains_key-clause-ok g c = record {
  present =
      ap (λ m. fin.contains_key m (g.K.Kept.meaning c.args.key)) (sym c.self.view_is)
      ∙ has_entries g.K.Kept.meaning g.V.Kept.meaning g.K.Ord.cmp g.met.K.Key.by_meaning c.args.key c.self.inside.map.entries
      ∙ sym c.contains_key.ensures
      ∙ c.if-contains_key.true;
  unchanged = refl;
}

pub returns-clause-ok : goal.returns-clause-ok
returns-clause-ok g c = record {
  absent =
      ap (λ m. fin.contains_key m (g.K.Kept.meaning c.args.key)) (sym c.self.view_is)
      ∙ has_entries g.K.Kept.meaning g.V.Kept.meaning g.K.Ord.cmp g.met.K.Key.by_meaning c.args.key c.self.inside.map.entries
      ∙ sym c.contains_key.ensures
      ∙ c.if-contains_key.false;
  new_entry =
      ap (first_meanings g.K.Kept.meaning g.V.Kept.meaning) c.in_ok-insert.ensures.entries
      ∙ meaning_insert g.K.Kept.meaning g.V.Kept.meaning g.K.Ord.cmp g.met.K.Key.by_meaning c.self.inside.map.entries c.args.key c.args.value
      ∙ ap (λ m. fin.insert m (g.K.Kept.meaning c.args.key) (g.V.Kept.meaning c.args.value)) c.self.view_is;
}
