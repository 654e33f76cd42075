use Rattle.std.proofs.Common.{◌<◌, ℕ, sym, ◌∙◌, subst}
use Rattle.t1_subset.proofs.state_tables.FontUsers.{present_below}
use Rattle.t1_subset.proofs.state_making.note_as.Goals as goal

pub returns-clause-references : goal.returns-clause-references
returns-clause-references c = record {
  users = λ i t.
      let below = subst (λ (n : ℕ). i < n) c.requires.alike.count (present_below c.args.font.now c.proof_is_font.ensures i t) in
      c.in_ok-users.ensures i below ∙ (c.requires.uses.users i below ∙ sym (c.requires.alike.users i));
  seekers = λ p. c.requires.uses.seekers p ∙ sym (c.requires.alike.seekers p);
}
