-- Where places are true, each switch can tell what it would tell.
use Rattle.std.proofs.Common.{◌≡◌, ℕ, Option, Some, None, refl, sym, ◌∙◌, ap, subst, arith}
use Rattle.pl_lemmas.proofs.Exports.{all_at, all_weaker}
use Rattle.pl_frame.specs.declared.address.SwitchId.{SwitchId}
use Rattle.pl_ldp.specs.Writable.{IsWritableId, IsWritableControl}
use Rattle.pl_wiring.specs.declared.link.Peer.{Peer}
use Rattle.pl_wiring.specs.declared.link.Peer.TheVariants.{HostPort, Switch}
use Rattle.pl_wiring.specs.Labels.{label_of}
use Rattle.pl_wiring.specs.Peers.{peer_of}
use Rattle.pl_wiring.specs.Plan.{IsPlan}
use Rattle.pl_node.specs.declared.neighbour.Neighbour.{Neighbour}
use Rattle.pl_node.specs.Accounting.{IsShaped}
use Rattle.pl_node.specs.PortRecords.{heard_id, id_at, port_of}
use Rattle.pl_world.specs.Flying.{IsCounted}
use Rattle.pl_world.specs.Worlds.{WorldView}
use Rattle.pl_law_control_plane.specs.ControlPlanes.{ControlPlane, control_plane, no_switch}
use Rattle.pl_law_control_plane.proofs.Exports.{adjacent_there, adjacent_turned}
use Rattle.pl_law_places.specs.Places.{ArePlaced}
use Rattle.pl_law_places.specs.Told.{IsGoodMessage, has_heard}
use Rattle.pl_law_places.proofs.Exports.{able_told, own_told}
use Rattle.pl_law_votes.specs.Voting.{CanTell}

-- a neighbour that was heard has an id
heard_ids : (f : ControlPlane) → IsPlan f.plan → ArePlaced f.plan f → (s port : ℕ) (id : SwitchId) → id_at (f.view s) port ≡ Some id → IsWritableId id
heard_ids f is placed s port id told = at (peer_of f.plan s port) refl (port_of (f.view s) port).heard refl
  where
    at : (peer : Peer) → peer_of f.plan s port ≡ peer → (heard : Option Neighbour) → (port_of (f.view s) port).heard ≡ heard → IsWritableId id
    at peer same None none = (let nothing = ap heard_id none in absurd (cc (nothing, told)))
    at HostPort same (Some n) some = (let none = placed.strangers s port same in absurd (cc (none, some)))
    at (Switch t q) same (Some n) some =
        let back = adjacent_turned f.plan s port t.0 q is same in
        let record_is = (placed.links t.0 q s port back).recorded.known n some in
        let there = (adjacent_there f.plan t.0 q s port is back).0 in
        let told_id : n.id ≡ id = cc (ap heard_id some, told) in
        subst IsWritableId (sym record_is.named ∙ told_id) (placed.sound t.0 there).named

pub can_tell : (w : WorldView) → IsCounted w → ArePlaced w.plan (control_plane w) → CanTell (control_plane w)
can_tell w counted placed =
    let is = counted.formed.plan in
    let f = control_plane w in
    record {
      plan = is;
      written = λ s p t q adjacent.
          all_weaker (IsGoodMessage (f.view s).id (f.view s).place (has_heard (f.view s) p)) IsWritableControl (λ c good. good.writable) (f.says s p)
          (placed.links s p t q adjacent).queued;
      places = λ s there. own_told w.plan.k (label_of w.plan.k s) (f.view s).place is.arity.most (placed.own s);
      proposals = λ s there.
          let many = counted.formed.switches in
          let shaped = all_at IsShaped w.switches s no_switch (omega (arith, there, many)) counted.shaped in
          able_told (f.view s).k (f.view s).attempt (f.view s).proposed shaped.high (placed.sound s there).able;
      echoes = λ s port id there told. heard_ids f is placed s port id told;
    }
