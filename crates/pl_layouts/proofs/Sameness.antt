-- The tests for being the same switch, address, number or place are equality.
use Rattle.std.proofs.Common.{ap, eq-eqb, None, Option, refl, Some, sym, true, true≢false, ℕ, ◌&&◌, ◌==◌, ◌≡◌}
use Rattle.std.proofs.lemmas.Slice.Eq.{bytes_eq-Decides}
use Rattle.std.proofs.lemmas.Bool.{and_from, and_parts, eqb-true}
use Rattle.pl_frame.specs.declared.address.SwitchId.{SwitchId}
use Rattle.pl_frame.specs.declared.address.Mac.{Mac}
use Rattle.pl_pmac.specs.declared.pmac.Pmac.{Pmac}
use Rattle.pl_layouts.specs.Equality.{same_mac, same_pmac, same_switch}
use Rattle.pl_layouts.specs.Placement.{same_number, same_place}
use Rattle.pl_layouts.specs.declared.place.Place.{Place}

pub switch_itself : (s : SwitchId) → same_switch s s ≡ true
switch_itself s = eq-eqb s.0 s.0 refl

pub mac_itself : (a : Mac) → same_mac a a ≡ true
mac_itself a = (bytes_eq-Decides a.0 a.0).1 refl

pub mac_is : (a b : Mac) → same_mac a b ≡ true → a ≡ b
mac_is a b h = let same = (bytes_eq-Decides a.0 b.0).0 h in λ i. record { 0 = same i }

pub pmac_itself : (x : Pmac) → same_pmac x x ≡ true
pmac_itself x =
    and_from ((x.pod == x.pod) && (x.position == x.position) && (x.port == x.port)) (x.vmid == x.vmid)
    (and_from ((x.pod == x.pod) && (x.position == x.position)) (x.port == x.port)
    (and_from (x.pod == x.pod) (x.position == x.position) (eq-eqb x.pod x.pod refl) (eq-eqb x.position x.position refl))
    (eq-eqb x.port x.port refl)) (eq-eqb x.vmid x.vmid refl)

pub pmac_is : (a b : Pmac) → same_pmac a b ≡ true → a ≡ b
pmac_is a b e =
    let three = and_parts ((a.pod == b.pod) && (a.position == b.position) && (a.port == b.port)) (a.vmid == b.vmid) e in
    let two = and_parts ((a.pod == b.pod) && (a.position == b.position)) (a.port == b.port) three.0 in
    let one = and_parts (a.pod == b.pod) (a.position == b.position) two.0 in
    let pod = eqb-true a.pod b.pod one.0 in let position = eqb-true a.position b.position one.1 in
    let port = eqb-true a.port b.port two.1 in let vmid = eqb-true a.vmid b.vmid three.1 in
    λ i. record { pod = pod i; position = position i; port = port i; vmid = vmid i }

pub number_itself : (o : Option ℕ) → same_number o o ≡ true
number_itself None = refl
number_itself (Some n) = eq-eqb n n refl

pub number_is : (a b : Option ℕ) → same_number a b ≡ true → a ≡ b
number_is None None h = refl
number_is None (Some y) h = absurd (true≢false (sym h))
number_is (Some x) None h = absurd (true≢false (sym h))
number_is (Some x) (Some y) h = ap Some (sym (eqb-true y x h))

pub place_itself : (p : Place) → same_place p p ≡ true
place_itself p =
    and_from (same_number p.level p.level && same_number p.position p.position) (same_number p.pod p.pod)
    (and_from (same_number p.level p.level) (same_number p.position p.position) (number_itself p.level) (number_itself p.position))
    (number_itself p.pod)

pub place_is : (a b : Place) → same_place a b ≡ true → a ≡ b
place_is a b h =
    let both = and_parts (same_number a.level b.level && same_number a.position b.position) (same_number a.pod b.pod) h in
    let two = and_parts (same_number a.level b.level) (same_number a.position b.position) both.0 in
    let level = number_is a.level b.level two.0 in
    let position = number_is a.position b.position two.1 in
    let pod = number_is a.pod b.pod both.1 in
    λ i. record { level = level i; position = position i; pod = pod i }
