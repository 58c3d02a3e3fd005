use Rattle.std.proofs.Common.{◌≡◌, ◌<◌, ◌++◌, false, length, take, get_or, refl, sym, ◌∙◌, arith}
use Rattle.std.specs.List.{list_any}
use Rattle.pl_topology.specs.declared.entries.SwitchEntry.{SwitchEntry}
use Rattle.pl_topology.specs.Checks.{has_id, id_is_new, kept_ids}
use Rattle.pl_topology.proofs.FoundLemmas.{id_is_new-passes, not_there, sees_last}
use Rattle.pl_topology.proofs.RefusalLemmas.{each_beside-next, front_more}
use Rattle.pl_topology.proofs.double_ids.ids_differ.Goals as goal

no_entry : SwitchEntry
no_entry = record { switch = record { 0 = 0 }; id = record { 0 = 0 } }

pub loop-entry-preserved : goal.loop-entry-preserved
unfolding no_entry
loop-entry-preserved c =
    let entries = c.args.entries.now in
    let i = c.loop-entry.entry-index in
    let within : i < length entries = omega arith in
    let front = kept_ids c.args.k entries in
    let entry = get_or entries i no_entry in
    let before = front ++ take i entries in
    let there : list_any (has_id entry.id) before ≡ false =
    sym (c.loop-entry.invariant.seen entry.id) ∙ not_there _ _ c.in_ok-insert.ensures.added c.if-not-branch.false in
    record {
      seen = λ id. rw (front_more front entries i no_entry entry within refl)
          (sees_last (has_id id) before entry _ _ (c.in_ok-insert.ensures.updates.0 id.0) (c.loop-entry.invariant.seen id));
      rest = each_beside-next id_is_new front entries i no_entry entry within refl (id_is_new-passes before entry there) ∙ c.loop-entry.invariant.rest;
    }
