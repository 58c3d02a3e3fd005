-- How many addresses were learnt once one was told.
use Rattle.std.proofs.Common.{◌≡◌, ◌+◌, not, ℕ, Bool, true, false, cond, refl, ap, ◌∙◌}
use Rattle.pl_node.specs.ManagerViews.{Learnt}
use Rattle.pl_manager_rule.specs.ManagerRule.{ToldAddress, host_of, is_registered, with_learnt, with_owner}
use Rattle.pl_registry.specs.Addresses.{learnt_of, with_address_as}

-- one more, where the address was not there
one_more : (n : ℕ) (there : Bool) → cond (not there) (n + 1) n ≡ cond there n (n + 1)
one_more n true = refl
one_more n false = refl

-- so what was learnt is counted
pub is_with_learnt : (before : Learnt) (new : ToldAddress) (is_new : Bool) → is_new ≡ not (is_registered before.addresses new.pmac) →
    let after : Learnt = record before {
      addresses = with_address_as (before.count + 1) (learnt_of before.addresses) new;
      owners = with_owner before.owners new.ip (host_of (learnt_of before.addresses) new);
      count = cond is_new (before.count + 1) before.count;
    } in
    after ≡ with_learnt before new
is_with_learnt before new is_new is =
    let counted : cond is_new (before.count + 1) before.count ≡ cond (is_registered before.addresses new.pmac) before.count (before.count + 1) =
    ap (λ b. cond b (before.count + 1) before.count) is ∙ one_more before.count (is_registered before.addresses new.pmac) in
    λ i. record before {
      addresses = with_address_as (before.count + 1) (learnt_of before.addresses) new;
      owners = with_owner before.owners new.ip (host_of (learnt_of before.addresses) new);
      count = counted i;
    }
