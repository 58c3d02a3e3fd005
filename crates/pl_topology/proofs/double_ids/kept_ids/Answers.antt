use Rattle.std.proofs.Common.{◌≡◌, true, false, is_some, sym, ap, ◌∙◌}
use Rattle.std.specs.List.{list_any}
use Rattle.pl_topology.specs.Checks.{canonical_entry, has_id}
use Rattle.pl_topology.specs.Entries.{is_of}
use Rattle.pl_topology.proofs.FoundLemmas.{is_some_find, kept_among, kept_among-kept, kept_among-named, sees_last}
use Rattle.pl_topology.proofs.double_ids.kept_ids.Goals as goal
use Rattle.pl_topology.proofs.double_ids.kept_ids.Goals.{then-not-contains_key+in_ok-insert, else-not-contains_key}

pub loop-number-preserved : goal.loop-number-preserved
loop-number-preserved c = λ given finds id.
    let n = c.loop-number.number-counter in
    let named = c.contains_key.ensures ∙ ap is_some (finds (record { 0 = n })) ∙ is_some_find (λ s. s.id) (is_of (record { 0 = n })) given in
    let was = c.loop-number.invariant given finds id in
    elim c.if-not-contains_key.branch [
      | then-not-contains_key+in_ok-insert w ↦
          let none : list_any (is_of (record { 0 = n })) given ≡ false = sym named ∙ w.if-not-contains_key.true in
          let put = (rw w.from.ensures at (w.in_ok-insert.ensures.updates.0 id.0)) in
          rw (w.seen-is, kept_among-kept given n none) (sees_last (has_id id) (kept_among given n) (canonical_entry n) _ _ put was)
      | else-not-contains_key w ↦
          let some : list_any (is_of (record { 0 = n })) given ≡ true = sym named ∙ w.if-not-contains_key.false in
          rw (w.seen-is, kept_among-named given n some) was
    ]
