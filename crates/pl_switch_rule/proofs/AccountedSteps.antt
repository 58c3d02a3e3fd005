-- Each step of a switch accounts for its frames.
use Rattle.std.proofs.Common.{ℕ, ◌%◌, ◌<◌, List, ◌∷◌, length, get_or, mod-lt, refl, arith}
use Rattle.std.proofs.lemmas.List.{get_or_default}
use Rattle.std.proofs.lemmas.Option.{slice_get-get_or}
use Rattle.pl_layouts.specs.Flow.{flow_hash}
use Rattle.pl_switch_rule.specs.Forwarding.{Choice}
use Rattle.pl_node.specs.Accounting.{AccountsForFrames, AllowsNoMore}
use Rattle.pl_switch_rule.specs.SwitchRule.{Exact, IsChoice, Loose, by_flow}
use Rattle.pl_switch_rule.proofs.AgingParts.{accounted_release, accounted_tick}
use Rattle.pl_switch_rule.proofs.AllSteps.{HandlesFrames, exact_is_accounted, loose_is_accounted}
use Rattle.pl_switch_rule.proofs.ComingIn.{data_comes_ends}
use Rattle.pl_switch_rule.proofs.Managed.{accounted_answer, accounted_flood, accounted_invalidate}

handles_frames : (choose : Choice) → IsChoice choose → HandlesFrames choose
handles_frames choose is_choice = record {
  frames = λ v port frame shaped coming kind. data_comes_ends choose v port frame is_choice shaped coming.within (record { kind = kind; whole = coming.whole });
  answer = λ v asker asker_ip ip pmac shaped. accounted_answer choose v asker asker_ip ip pmac is_choice shaped;
  flood = accounted_flood choose;
  invalidate = accounted_invalidate choose;
  tick = accounted_tick choose;
  release = accounted_release choose;
}

-- number `hash modulo count` is one of them
by_flow_chooses : IsChoice by_flow
by_flow_chooses = record {
  empty = λ frame. refl;
  chosen = λ port ports frame.
      let all : List ℕ = port ∷ ports in
      let i : ℕ = flow_hash frame % length all in
      let within : i < length all = mod-lt (flow_hash frame) (omega arith) in
      let n : ℕ = get_or all i 0 in
      (n, slice_get-get_or all i 0 within, (i, (within, get_or_default all i 0 n within)));
}

pub exact_is_loose : AllowsNoMore Exact Loose
exact_is_loose = λ old input new acts steps. record { choose = by_flow; is_choice = by_flow_chooses; steps = steps }

pub loose_steps_are_accounted : AccountsForFrames Loose
loose_steps_are_accounted = loose_is_accounted handles_frames

pub exact_steps_are_accounted : AccountsForFrames Exact
exact_steps_are_accounted = exact_is_accounted handles_frames by_flow_chooses
