-- What is told last of an IPv4 address, in the order of the addresses.
use Rattle.std.proofs.Common.{◌≡◌, cond, List, [], ◌∷◌, Some, refl, sym, ◌∙◌}
use Rattle.std.specs.List.Sorted.{IsStrictlySortedBy}
use Rattle.std.specs.Map.{keys_of, lookup}
use Rattle.std.specs.BTreeMap.{insert_entry}
use Rattle.std.proofs.lemmas.Cmp.{nat_eq_equiv}
use Rattle.pl_frame.specs.declared.address.Ip4.{Ip4}
use Rattle.pl_frame.specs.declared.address.Mac.{Mac}
use Rattle.pl_node.specs.HostViews.{ip_cmp}
use Rattle.pl_node.specs.ManagerViews.{value_at}
use Rattle.pl_node.proofs.Exports.{is_eq-ip_cmp}
use Rattle.pl_manager_rule.proofs.Exports.{ip_exact, ip_total, rising_put, value_after}
use Rattle.pl_registry.specs.Owners.{by_address}
use Rattle.pl_registry.proofs.Alike.{same_tables}
use Rattle.pl_arp.specs.Reception.{same_ip}

rises : (es : List (Ip4 × Mac)) → IsStrictlySortedBy ip_cmp (keys_of (by_address es))
unfolding IsStrictlySortedBy
rises [] = tt
rises (e ∷ es) = rising_put ip_cmp ip_total (by_address es) e.0 e.1 (rises es)

-- in the order of the addresses a table says the same
pub told_in_order : (es : List (Ip4 × Mac)) (ip : Ip4) → value_at ip_cmp (by_address es) ip ≡ lookup (same_ip ip) es
told_in_order [] ip = refl
told_in_order (e ∷ es) ip =
    value_after ip_cmp ip_total ip_exact (by_address es) e.0 ip e.1
    ∙ λ i. cond (is_eq-ip_cmp ip e.0 i) (Some e.1) (told_in_order es ip i)

-- one more word
pub told_more : (before after : List (Ip4 × Mac)) (ip : Ip4) (amac : Mac) →
    ((q : Ip4) → lookup (same_ip q) after ≡ cond (same_ip ip q) (Some amac) (lookup (same_ip q) before)) →
    by_address after ≡ insert_entry ip_cmp (by_address before) ip amac
told_more before after ip amac says =
    same_tables ip_cmp ip_total ip_exact (by_address after) (insert_entry ip_cmp (by_address before) ip amac)
    (rises after) (rising_put ip_cmp ip_total (by_address before) ip amac (rises before))
    (λ q. told_in_order after q ∙ says q
    ∙ sym (value_after ip_cmp ip_total ip_exact (by_address before) ip q amac
    ∙ λ i. cond ((is_eq-ip_cmp q ip ∙ nat_eq_equiv.symm q.0 ip.0) i) (Some amac) (told_in_order before q i)))
