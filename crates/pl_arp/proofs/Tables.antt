-- A table of pairs once a pair is put in.
use Rattle.std.proofs.Common.{◌≡◌, ◌≢◌, ◌==◌, Bool, true, false, cond, ne_eqb, [], ◌∷◌, ◌++◌, Option, Some, None, refl, sym, ap, ◌∙◌}
use Rattle.std.proofs.lemmas.Bool.Decides.{Decides-eqb}
use Rattle.pl_frame.specs.declared.address.Mac.{Mac}
use Rattle.pl_frame.specs.declared.address.Ip4.{Ip4}
use Rattle.pl_arp.specs.Reception.{Table, hardware_of, same_ip, with_pair}

pub hardware_of-with_pair : (table : Table) (ip : Ip4) (mac : Mac) → hardware_of (with_pair table ip mac) ip ≡ Some mac
hardware_of-with_pair [] ip mac = let same = (Decides-eqb ip.0 ip.0).1 refl in rw same refl
hardware_of-with_pair (e ∷ es) ip mac =
    elim (same_ip ip e.0) as (λ b. same_ip ip e.0 ≡ b → hardware_of (cond b ((e.0, mac) ∷ es) (e ∷ with_pair es ip mac)) ip ≡ Some mac)
    [ true ↦ λ h. rw h refl | false ↦ λ h. rw h (hardware_of-with_pair es ip mac) ] refl

pub hardware_of-others : (table : Table) (ip other : Ip4) (mac : Mac) → other.0 ≢ ip.0 →
    hardware_of (with_pair table ip mac) other ≡ hardware_of table other
hardware_of-others [] ip other mac apart = let no = ne_eqb other.0 ip.0 apart in rw no refl
hardware_of-others (e ∷ es) ip other mac apart =
    elim (same_ip ip e.0)
    as (λ b. same_ip ip e.0 ≡ b → hardware_of (cond b ((e.0, mac) ∷ es) (e ∷ with_pair es ip mac)) other ≡ hardware_of (e ∷ es) other) [
      | true ↦ λ h.
          let here : ip.0 ≡ e.0.0 = (Decides-eqb ip.0 e.0.0).0 h in
          let no : (other.0 == e.0.0) ≡ false = ne_eqb other.0 e.0.0 (λ k. apart (k ∙ sym here)) in
          rw no refl
      | false ↦ λ h. ap (λ v. cond (same_ip other e.0) (Some e.1) v) (hardware_of-others es ip other mac apart)
    ] refl

-- which way a look-up went
missed : (b : Bool) (mac : Mac) (v : Option Mac) → cond b (Some mac) v ≡ None → (b ≡ false) × (v ≡ None)
missed true mac v h = absurd (cc)
missed false mac v h = (refl, h)

pub with_pair-unknown : (table : Table) (ip : Ip4) (mac : Mac) → hardware_of table ip ≡ None → with_pair table ip mac ≡ table ++ (ip, mac) ∷ []
with_pair-unknown [] ip mac none = refl
with_pair-unknown (e ∷ es) ip mac none =
    let split = missed (same_ip ip e.0) e.1 (hardware_of es ip) none in
    let away : (ip.0 == e.0.0) ≡ false = split.0 in
    rw away (ap (λ r. e ∷ r) (with_pair-unknown es ip mac split.1))
