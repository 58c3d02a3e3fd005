-- Where a sure frame is on its way.
use Rattle.std.proofs.Common.{◌≡◌, ◌⊎◌, ℕ, false, List, ◌∷◌, Some, set, sym, ap, ◌∙◌, subst, inl, inr}
use Rattle.pl_frame.specs.Ethernet.{destination_of}
use Rattle.pl_pmac.specs.declared.pmac.Pmac.{Pmac}
use Rattle.pl_pmac.specs.Pmac.{pmac_of}
use Rattle.pl_layouts.specs.Memberships.{is_group}
use Rattle.pl_wiring.specs.Index.{port_index}
use Rattle.pl_wiring.specs.Plan.{IsPlan, Plan}
use Rattle.pl_journal.specs.declared.entry.Entry.{Entry}
use Rattle.pl_journal.specs.declared.entry.Entry.TheVariants.{Arrived}
use Rattle.pl_journal.specs.Lossy.{mac_of_host}
use Rattle.pl_node.proofs.Exports.{IsAmong}
use Rattle.pl_queues.specs.Queues.{items_at}
use Rattle.pl_world.specs.declared.item.Item.{Item}
use Rattle.pl_world.specs.declared.item.Item.TheVariants.{Data}
use Rattle.pl_world.specs.Changes.{host_no}
use Rattle.pl_world.specs.Worlds.{WorldView}
use Rattle.pl_law_arrival.specs.Reach.{IsUnicastTo}
use Rattle.pl_law_arrival.specs.Ways.{Alike, Fabric, IsLast, IsTop, LeadsBy, LeadsDown, fabric_of}
use Rattle.pl_law_arrival.proofs.Alike.{from_there, still_by, still_down, still_last, still_level, still_top}
use Rattle.pl_law_arrival.proofs.LeftByAStep.{left_over}

-- Between switches s and u on its way to edge switch t: from an edge switch to one from which a way leads down; from an aggregation switch to
-- such a core switch; from a core switch to the last one; from the last one to t.
pub data IsHeaded (f : Fabric) (pod t s u : ℕ) : Type 0 where
  FromEdge : (f.place s).level ≡ Some 0 → LeadsDown f pod t u → IsHeaded f pod t s u
  FromFirst : (f.place s).level ≡ Some 1 → IsTop f pod t u → IsHeaded f pod t s u
  FromTop : (f.place s).level ≡ Some 2 → IsLast f pod t u → IsHeaded f pod t s u
  FromLast : (f.place s).level ≡ Some 1 → u ≡ t → IsHeaded f pod t s u

-- It waits at its host, is under way, leaves for the other host, or has come there.
pub data OnTrack (f : Fabric) (from_hosts out : List (List Item)) (journal : List Entry) (h g t : ℕ) (x : Pmac) (id : ℕ) : Type 0 where
  Waits : (frame : List ℕ) → IsAmong (Data id frame) (items_at from_hosts h) → IsUnicastTo frame x → OnTrack f from_hosts out journal h g t x id
  Under : (s p u : ℕ) (frame : List ℕ) → LeadsBy f s p u → IsAmong (Data id frame) (items_at out (port_index f.plan.k s p)) → is_group (destination_of frame) ≡ false →
      pmac_of (destination_of frame) ≡ x → IsHeaded f x.pod t s u → OnTrack f from_hosts out journal h g t x id
  Leaves : (frame : List ℕ) → IsAmong (Data id frame) (items_at out (port_index f.plan.k t x.port)) → is_group (destination_of frame) ≡ false →
      mac_of_host f.plan g ≡ Some (destination_of frame) → OnTrack f from_hosts out journal h g t x id
  Came : (frame : List ℕ) → IsAmong (Arrived id (host_no g) frame) journal → OnTrack f from_hosts out journal h g t x id

abbrev pub IsOnTrack : WorldView → ℕ → ℕ → ℕ → Pmac → ℕ → Type 0
IsOnTrack w h g t x id = OnTrack (fabric_of w) w.from_hosts w.out w.journal h g t x id

module _ (f g : Fabric) (is : IsPlan f.plan) (same : Alike f g) where
  pub still_headed : (pod t s p u : ℕ) → LeadsBy f s p u → IsHeaded f pod t s u → IsHeaded g pod t s u
  still_headed pod t s p u l (FromEdge level leads) = FromEdge (still_level f g is same s 0 (from_there f g is same s p u l) level) (still_down f g is same pod t u leads)
  still_headed pod t s p u l (FromFirst level top) = FromFirst (still_level f g is same s 1 (from_there f g is same s p u l) level) (still_top f g is same pod t u top)
  still_headed pod t s p u l (FromTop level last) = FromTop (still_level f g is same s 2 (from_there f g is same s p u l) level) (still_last f g is same pod t u last)
  still_headed pod t s p u l (FromLast level home) = FromLast (still_level f g is same s 1 (from_there f g is same s p u l) level) home

  module _ (from_hosts out later_hosts later : List (List Item)) (journal after : List Entry) (hosts : (i : ℕ) (y : Item) → IsAmong y (items_at from_hosts i) → IsAmong y (items_at later_hosts i))
      (outs : (i : ℕ) (y : Item) → IsAmong y (items_at out i) → IsAmong y (items_at later i)) (entries : (e : Entry) → IsAmong e journal → IsAmong e after) where
    index_now : (s p : ℕ) (y : Item) → IsAmong y (items_at out (port_index f.plan.k s p)) → IsAmong y (items_at later (port_index g.plan.k s p))
    index_now s p y among = subst (λ (plan : Plan). IsAmong y (items_at later (port_index plan.k s p))) (sym same.plan) (outs (port_index f.plan.k s p) y among)

    -- what stays in its queue stays on its track
    pub still_on : (h host t : ℕ) (x : Pmac) (id : ℕ) → OnTrack f from_hosts out journal h host t x id → OnTrack g later_hosts later after h host t x id
    still_on h host t x id (Waits frame among to_one_host) = Waits frame (hosts h (Data id frame) among) to_one_host
    still_on h host t x id (Under s p u frame l among one to headed) =
        Under s p u frame (still_by f g is same s p u l) (index_now s p (Data id frame) among) one to (still_headed x.pod t s p u l headed)
    still_on h host t x id (Leaves frame among one mac) =
        Leaves frame (index_now t x.port (Data id frame) among) one (ap (λ (plan : Plan). mac_of_host plan host) same.plan ∙ mac)
    still_on h host t x id (Came frame among) = Came frame (entries (Arrived id (host_no host) frame) among)

-- ---- the first item of a queue out of a port is taken
pub record IsTakenUnder (f : Fabric) (n : ℕ) (item : Item) (t : ℕ) (x : Pmac) (id : ℕ) : Type 0 where
  pub s : ℕ
  pub p : ℕ
  pub u : ℕ
  pub frame : List ℕ
  pub leads : LeadsBy f s p u
  pub at : port_index f.plan.k s p ≡ n
  pub is : item ≡ Data id frame
  pub one : is_group (destination_of frame) ≡ false
  pub to : pmac_of (destination_of frame) ≡ x
  pub headed : IsHeaded f x.pod t s u

pub record IsTakenLeaving (f : Fabric) (n : ℕ) (item : Item) (g t : ℕ) (x : Pmac) (id : ℕ) : Type 0 where
  pub frame : List ℕ
  pub at : port_index f.plan.k t x.port ≡ n
  pub is : item ≡ Data id frame
  pub one : is_group (destination_of frame) ≡ false
  pub mac : mac_of_host f.plan g ≡ Some (destination_of frame)

pub record IsTakenWaiting (n : ℕ) (item : Item) (h : ℕ) (x : Pmac) (id : ℕ) : Type 0 where
  pub frame : List ℕ
  pub at : h ≡ n
  pub is : item ≡ Data id frame
  pub to_one_host : IsUnicastTo frame x

pub split_out : (f : Fabric) (from_hosts out : List (List Item)) (journal : List Entry) (n : ℕ) (item : Item) (items : List Item) → items_at out n ≡ item ∷ items →
    (h g t : ℕ) (x : Pmac) (id : ℕ) → OnTrack f from_hosts out journal h g t x id →
    OnTrack f from_hosts (set out n items) journal h g t x id ⊎ (IsTakenUnder f n item t x id ⊎ IsTakenLeaving f n item g t x id)
split_out f from_hosts out journal n item items head h g t x id (Waits frame among to_one_host) = inl (Waits frame among to_one_host)
split_out f from_hosts out journal n item items head h g t x id (Came frame among) = inl (Came frame among)
split_out f from_hosts out journal n item items head h g t x id (Under s p u frame l among one to headed) = elim (left_over out n (port_index f.plan.k s p) (Data id frame) item items head among) [
  | inl both ↦ inr (inl (record { s = s; p = p; u = u; frame = frame; leads = l; at = both.0; is = both.1; one = one; to = to; headed = headed }))
  | inr rest ↦ inl (Under s p u frame l rest one to headed)
]
split_out f from_hosts out journal n item items head h g t x id (Leaves frame among one mac) = elim (left_over out n (port_index f.plan.k t x.port) (Data id frame) item items head among) [
  | inl both ↦ inr (inr (record { frame = frame; at = both.0; is = both.1; one = one; mac = mac }))
  | inr rest ↦ inl (Leaves frame rest one mac)
]

pub split_hosts : (f : Fabric) (from_hosts out : List (List Item)) (journal : List Entry) (n : ℕ) (item : Item) (items : List Item) → items_at from_hosts n ≡ item ∷ items →
    (h g t : ℕ) (x : Pmac) (id : ℕ) → OnTrack f from_hosts out journal h g t x id →
    OnTrack f (set from_hosts n items) out journal h g t x id ⊎ IsTakenWaiting n item h x id
split_hosts f from_hosts out journal n item items head h g t x id (Waits frame among to_one_host) = elim (left_over from_hosts n h (Data id frame) item items head among) [
  | inl both ↦ inr (record { frame = frame; at = both.0; is = both.1; to_one_host = to_one_host })
  | inr rest ↦ inl (Waits frame rest to_one_host)
]
split_hosts f from_hosts out journal n item items head h g t x id (Under s p u frame l among one to headed) = inl (Under s p u frame l among one to headed)
split_hosts f from_hosts out journal n item items head h g t x id (Leaves frame among one mac) = inl (Leaves frame among one mac)
split_hosts f from_hosts out journal n item items head h g t x id (Came frame among) = inl (Came frame among)
