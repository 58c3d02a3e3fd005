-- What comes of the first item of a queue, and that nothing comes of an empty one.
use Rattle.std.proofs.Common.{◌≡◌, ℕ, List, [], ◌∷◌, Option, None, Some, slice_get, refl, sym, ap, subst}
use Rattle.pl_node.specs.declared.messages.ToSwitch.{ToSwitch}
use Rattle.pl_node.specs.SwitchInputs.SwitchInput.{Says}
use Rattle.pl_wiring.specs.declared.label.SwitchNo.{SwitchNo}
use Rattle.pl_wiring.specs.declared.link.Peer.{Peer}
use Rattle.pl_wiring.specs.declared.link.Peer.TheVariants.{HostPort, Switch}
use Rattle.pl_world.specs.declared.attachment.AttachmentPoint.{AttachmentPoint}
use Rattle.pl_world.specs.declared.item.Item.{Item}
use Rattle.pl_world.specs.Drops.{Coming, coming_at, coming_from_manager, coming_in, coming_over}

pub nothing_in : (items : List Item) (found : Option AttachmentPoint) → slice_get items 0 ≡ None → coming_in items found ≡ None
nothing_in [] found none = refl
nothing_in (item ∷ items) found none = absurd (cc)

pub first_in : (items : List Item) (item : Item) (found : Option AttachmentPoint) (at : AttachmentPoint) → slice_get items 0 ≡ Some item → found ≡ Some at →
    coming_in items found ≡ Some (coming_at at.edge.0 at.port item)
first_in [] item found at first is = absurd (cc)
first_in (x ∷ items) item found at first is =
    let same : x ≡ item = cc in
    subst (λ f. coming_in (x ∷ items) f ≡ Some (coming_at at.edge.0 at.port item)) (sym is) (ap (λ y. Some (coming_at at.edge.0 at.port y)) same)

pub nothing_over : (items : List Item) (peer : Peer) → slice_get items 0 ≡ None → coming_over items peer ≡ None
nothing_over [] peer none = refl
nothing_over (item ∷ items) peer none = absurd (cc)

pub first_over : (items : List Item) (item : Item) (peer : Peer) (t : SwitchNo) (q : ℕ) → slice_get items 0 ≡ Some item → peer ≡ Switch t q →
    coming_over items peer ≡ Some (coming_at t.0 q item)
first_over [] item peer t q first is = absurd (cc)
first_over (x ∷ items) item peer t q first is =
    let same : x ≡ item = cc in
    subst (λ p. coming_over (x ∷ items) p ≡ Some (coming_at t.0 q item)) (sym is) (ap (λ y. Some (coming_at t.0 q y)) same)

pub nothing_for_hosts : (items : List Item) (peer : Peer) → peer ≡ HostPort → coming_over items peer ≡ None
nothing_for_hosts [] peer is = refl
nothing_for_hosts (item ∷ items) peer is = ap (coming_over (item ∷ items)) is

pub nothing_said : (s : ℕ) (items : List ToSwitch) → slice_get items 0 ≡ None → coming_from_manager s items ≡ None
nothing_said s [] none = refl
nothing_said s (says ∷ items) none = absurd (cc)

pub first_said : (s : ℕ) (items : List ToSwitch) (says : ToSwitch) → slice_get items 0 ≡ Some says →
    coming_from_manager s items ≡ Some (record { switch = s; input = Says says; frame = None })
first_said s [] says first = absurd (cc)
first_said s (x ∷ items) says first =
    let same : x ≡ says = cc in
    ap (λ y. Some (record { switch = s; input = Says y; frame = None })) same
