-- What keeps the shape of a switch.
use Rattle.std.proofs.Common.{◌≡◌, ◌<◌, ◌≤◌, ◌+◌, ◌%◌, ◌/◌, ◌^◌, ℕ, zero, suc, List, [], ◌∷◌, length, Option, None, refl, sym, ap, subst, ◌∙◌, arith, slice_set, slice_index_or}
use Rattle.std.specs.List.{AllByRecursion, range_with_len, slice_get}
use Rattle.std.proofs.lemmas.List.{length-set}
use Rattle.std.specs.Option.{IfSome}
use Rattle.pl_pmac.specs.declared.pmac.Pmac.{Pmac}
use Rattle.pl_node.specs.declared.neighbour.PortRecord.{PortRecord}
use Rattle.pl_layouts.specs.declared.place.Place.{Place}
use Rattle.pl_switch_rule.specs.Granting.{freed_at, grants_at, remembered_at, with_grants}
use Rattle.pl_node.specs.Accounting.{HasMac, IsShaped, RemembersMac, WereGranted}
use Rattle.pl_node.specs.PortRecords.{with_port}
use Rattle.pl_node.specs.declared.switch_records.Grant.{Grant}
use Rattle.pl_node.specs.declared.switch_records.Hold.{Hold}
use Rattle.pl_node.specs.declared.switch_records.Member.{Member}
use Rattle.pl_node.specs.declared.switch_records.Source.{Source}
use Rattle.pl_node.specs.SwitchViews.{SwitchView}
use Rattle.pl_switch_rule.proofs.StepParts.{IsSame}

-- Lists.

none_long : (n : ℕ) → 0 ≡ suc n → ⊥
none_long n is = omega (arith, is)

pub all_set : {X : Type 0} (P : X → Type 0) (xs : List X) (i : ℕ) (x : X) → AllByRecursion P xs → P x → AllByRecursion P (slice_set xs i x)
all_set P [] i x all it = tt
all_set P (y ∷ ys) zero x all it = (it, all.1)
all_set P (y ∷ ys) (suc i) x all it = (all.0, all_set P ys i x all.1 it)

pub all_or : {X : Type 0} (P : X → Type 0) (xs : List X) (i : ℕ) (d : X) → AllByRecursion P xs → P d → P (slice_index_or xs i d)
all_or P [] i d all it = it
all_or P (y ∷ ys) zero d all it = all.0
all_or P (y ∷ ys) (suc i) d all it = all_or P ys i d all.1 it

pub all_get : {X : Type 0} (P : X → Type 0) (xs : List X) (i : ℕ) → AllByRecursion P xs → IfSome (slice_get xs i) P
all_get P [] i all = tt
all_get P (y ∷ ys) zero all = all.0
all_get P (y ∷ ys) (suc i) all = all_get P ys i all.1

-- a property of what stands at a place, where one item is put
pub one_set : {X : Type 0} (P : X → Type 0) (xs : List X) (i at : ℕ) (x d : X) → (i ≡ at → P x) → P (slice_index_or xs at d) →
    P (slice_index_or (slice_set xs i x) at d)
one_set P [] i at x d put there = there
one_set P (y ∷ ys) zero zero x d put there = put refl
one_set P (y ∷ ys) zero (suc at) x d put there = there
one_set P (y ∷ ys) (suc i) zero x d put there = there
one_set P (y ∷ ys) (suc i) (suc at) x d put there = one_set P ys i at x d (λ same. put (ap suc same)) there

-- and of two lists side by side
pub both_set : {X Y : Type 0} (P : X → Y → Type 0) (xs : List X) (ys : List Y) (i at : ℕ) (x : X) (y : Y) (d : X) (e : Y) → length xs ≡ length ys → P x y →
    ((at : ℕ) → P (slice_index_or xs at d) (slice_index_or ys at e)) → P (slice_index_or (slice_set xs i x) at d) (slice_index_or (slice_set ys i y) at e)
both_set P [] [] i at x y d e long put there = there at
both_set P [] (b ∷ ys) i at x y d e long put there = absurd (none_long (length ys) long)
both_set P (a ∷ xs) [] i at x y d e long put there = absurd (none_long (length xs) (sym long))
both_set P (a ∷ xs) (b ∷ ys) zero zero x y d e long put there = put
both_set P (a ∷ xs) (b ∷ ys) zero (suc at) x y d e long put there = there (suc at)
both_set P (a ∷ xs) (b ∷ ys) (suc i) zero x y d e long put there = there zero
both_set P (a ∷ xs) (b ∷ ys) (suc i) (suc at) x y d e long put there =
    both_set P xs ys i at x y d e (let shorter : length xs ≡ length ys = omega (arith, long) in shorter) put (λ n. there (suc n))

-- numbers from a on lie below their end
pub all_range : (k a n : ℕ) → a + n ≤ k → AllByRecursion (λ i. i < k) (range_with_len a n)
all_range k a zero within = tt
all_range k a (suc n) within = (omega (arith, within), all_range k (a + 1) n (omega (arith, within)))

-- The shape.

pub same_shape : (v w : SwitchView) → IsShaped v → w.id ≡ v.id → w.k ≡ v.k → length w.ports ≡ length v.ports → length w.holds ≡ length v.holds →
    length w.grants ≡ length v.grants → length w.freed ≡ length v.freed → length w.remembered ≡ length v.remembered →
    AllByRecursion (AllByRecursion HasMac) w.grants → ((port : ℕ) → WereGranted (grants_at w port) (freed_at w port)) →
    AllByRecursion RemembersMac w.remembered → IsSame v w
same_shape v w s id k ports holds grants freed remembered macs free sources = record {
  id = id;
  k = k;
  shaped = record {
    named = subst (λ i. 1 ≤ i.0) (sym id) s.named;
    id = subst (λ i. i.0 < 2 ^ 48) (sym id) s.id;
    low = subst (λ n. 4 ≤ n) (sym k) s.low;
    high = subst (λ n. n ≤ 24) (sym k) s.high;
    even = ap (λ n. n % 2) k ∙ s.even;
    ports = ports ∙ s.ports ∙ sym k;
    holds = holds ∙ s.holds ∙ ap (λ n. n / 2) (sym k);
    grants = grants ∙ s.grants ∙ sym k;
    freed = freed ∙ s.freed ∙ sym k;
    remembered = remembered ∙ s.remembered ∙ sym k;
    granted = macs;
    free = free;
    sources = sources;
  };
}

pub same_self : (v : SwitchView) → IsShaped v → IsSame v v
same_self v s = record { id = refl; k = refl; shaped = s }

-- what a shape does not speak of may be anything
pub same_but : (v : SwitchView) (place : Place) (attempt proposed : ℕ) (granted : List ℕ) (members : List Member) → IsShaped v →
    IsSame v (record v { place = place; attempt = attempt; proposed = proposed; granted = granted; members = members })
same_but v place attempt proposed granted members s =
    same_shape v (record v { place = place; attempt = attempt; proposed = proposed; granted = granted; members = members }) s refl refl refl refl refl refl refl s.granted s.free s.sources

pub same_with_ports : (v : SwitchView) (ports : List PortRecord) → IsShaped v → length ports ≡ length v.ports → IsSame v (record v { ports = ports })
same_with_ports v ports s long = same_shape v (record v { ports = ports }) s refl refl long refl refl refl refl s.granted s.free s.sources

pub same_with_holds : (v : SwitchView) (holds : List (Option Hold)) → IsShaped v → length holds ≡ length v.holds → IsSame v (record v { holds = holds })
same_with_holds v holds s long = same_shape v (record v { holds = holds }) s refl refl refl long refl refl refl s.granted s.free s.sources

pub same_with_port : (v : SwitchView) (port : ℕ) (r : PortRecord) → IsShaped v → IsSame v (with_port v port r)
same_with_port v port r s = same_with_ports v (slice_set v.ports port r) s (length-set v.ports port r)

-- ---- addresses
-- more grants have those vmids too
pub granted_still : (old new : List Grant) (vmids : List ℕ) → length old ≤ length new → WereGranted old vmids → WereGranted new vmids
granted_still old new [] more all = tt
granted_still old new (vmid ∷ vmids) more all = ((all.0.0, let within = all.0.1 in omega (arith, within, more)), granted_still old new vmids more all.1)

-- the addresses of one port change, and its free ones with them; the orders of addresses may be any
pub same_with_addresses : (v : SwitchView) (port : ℕ) (grants : List Grant) (vmids : List ℕ) (used trapped : List Pmac) → IsShaped v → AllByRecursion HasMac grants →
    WereGranted grants vmids → IsSame v (record (with_grants v port grants) { freed = slice_set v.freed port vmids; used = used; trapped = trapped })
same_with_addresses v port grants vmids used trapped s macs within =
    same_shape v (record (with_grants v port grants) { freed = slice_set v.freed port vmids; used = used; trapped = trapped }) s refl refl refl refl
    (length-set v.grants port grants) (length-set v.freed port vmids) refl
    (all_set (AllByRecursion HasMac) v.grants port grants s.granted macs) free s.sources
  where
    free : (at : ℕ) → WereGranted (slice_index_or (slice_set v.grants port grants) at []) (slice_index_or (slice_set v.freed port vmids) at [])
    free at = both_set WereGranted v.grants v.freed port at grants vmids [] [] (s.grants ∙ sym s.freed) within s.free

-- the same where no address becomes free, or is given again
pub same_with_orders : (v : SwitchView) (port : ℕ) (grants : List Grant) (used trapped : List Pmac) → IsShaped v → AllByRecursion HasMac grants →
    length (grants_at v port) ≤ length grants → IsSame v (record (with_grants v port grants) { used = used; trapped = trapped })
same_with_orders v port grants used trapped s macs more =
    same_shape v (record (with_grants v port grants) { used = used; trapped = trapped }) s refl refl refl refl (length-set v.grants port grants) refl refl
    (all_set (AllByRecursion HasMac) v.grants port grants s.granted macs) free s.sources
  where
    free : (at : ℕ) → WereGranted (slice_index_or (slice_set v.grants port grants) at []) (freed_at v at)
    free at = one_set (λ (gs : List Grant). WereGranted gs (freed_at v at)) v.grants port at grants []
        (λ same. granted_still (grants_at v at) grants (freed_at v at) (subst (λ p. length (grants_at v p) ≤ length grants) same more) (s.free at)) (s.free at)

pub same_with_grants : (v : SwitchView) (port : ℕ) (grants : List Grant) → IsShaped v → AllByRecursion HasMac grants →
    length (grants_at v port) ≤ length grants → IsSame v (with_grants v port grants)
same_with_grants v port grants s macs more = same_with_orders v port grants v.used v.trapped s macs more

pub same_with_source : (v : SwitchView) (port : ℕ) (source : Option Source) → IsShaped v → RemembersMac source →
    IsSame v (record v { remembered = slice_set v.remembered port source })
same_with_source v port source s mac =
    same_shape v (record v { remembered = slice_set v.remembered port source }) s refl refl refl refl refl refl (length-set v.remembered port source) s.granted s.free
    (all_set RemembersMac v.remembered port source s.sources mac)

pub grants_have_macs : (v : SwitchView) (port : ℕ) → IsShaped v → AllByRecursion HasMac (grants_at v port)
grants_have_macs v port s = all_or (AllByRecursion HasMac) v.grants port [] s.granted tt

pub source_has_mac : (v : SwitchView) (port : ℕ) → IsShaped v → RemembersMac (remembered_at v port)
source_has_mac v port s = all_or RemembersMac v.remembered port None s.sources tt
