-- A table of hosts by name with one more host in it.
use Rattle.std.proofs.Common.{◌≡◌, ◌≢◌, ℕ, ◌+◌, ◌<◌, ◌⊎◌, List, length, true, false, Some, get_or, refl, sym, ◌∙◌, ap, inl, inr, AllPairs, bytes_eq, string_bytes, String, Global}
use Rattle.std.specs.HashMap.{HashMap, get_by_text, UpdatesBy}
use Rattle.std.specs.String.{string_eq}
use Rattle.std.specs.Bool.{Decides}
use Rattle.std.proofs.lemmas.Bool.{false_from_ne_true}
use Rattle.std.proofs.lemmas.Map.Text.{hash_map_updates_text}
use Rattle.std.proofs.lemmas.Slice.Eq.{bytes_eq-Decides}
use Rattle.pl_wiring.specs.declared.host.Host.{Host}
use Rattle.pl_wiring.specs.Index.{IsIndex}
use Rattle.pl_wiring.proofs.Entered.{IsIndex-more}

pub cases_text : (a b : List ℕ) → (a ≡ b) ⊎ (a ≡ b → ⊥)
cases_text a b = (elim (bytes_eq a b) as (λ r. Decides r (a ≡ b) → (a ≡ b) ⊎ (a ≡ b → ⊥)) [
  | true ↦ λ d. inl (d.0 refl)
  | false ↦ λ d. inr (λ e. (let f : false ≡ true = d.1 e in cc))
]) (bytes_eq-Decides a b)

pub enter_name : {S : Type 0} (m : ℕ) (hosts : List Host) (host : Host) (old new : HashMap (String Global) ℕ S) (key : List ℕ) →
    AllPairs (λ g h. g.name ≢ h.name) hosts → m < length hosts → host ≡ get_or hosts m host → key ≡ host.name →
    IsIndex (get_by_text old) (λ (h : Host) (text : List ℕ). h.name ≡ text) hosts m →
    UpdatesBy string_eq (λ k. bytes_eq key (string_bytes k)) old new (Some m) →
    IsIndex (get_by_text new) (λ (h : Host) (text : List ℕ). h.name ≡ text) hosts (m + 1)
enter_name m hosts host old new key apart within is named index updates =
    let name_is : (get_or hosts m host).name ≡ key = ap (λ h. h.name) (sym is) ∙ sym named in
    IsIndex-more (get_by_text old) (get_by_text new) (λ (h : Host) (text : List ℕ). h.name ≡ text) hosts m host within index
    (λ text. cases_text (get_or hosts m host).name text)
    (λ text here.
    let same : bytes_eq key text ≡ true = (bytes_eq-Decides key text).1 (sym name_is ∙ here) in
    hash_map_updates_text key old new (Some m) updates text ∙ rw same refl)
    (λ text away.
    let differ : bytes_eq key text ≡ false = false_from_ne_true (bytes_eq key text) (λ t. away (name_is ∙ (bytes_eq-Decides key text).0 t)) in
    hash_map_updates_text key old new (Some m) updates text ∙ rw differ refl)
    (λ n text less there here. apart n m host less within (there ∙ sym here))
