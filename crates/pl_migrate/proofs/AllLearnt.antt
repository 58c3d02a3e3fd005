-- Port by port, what is remembered is learnt.
use Rattle.std.proofs.Common.{◌≡◌, ◌<◌, ℕ, suc, ◌+◌, ◌-◌, List, [], ◌++◌, length, Option, None, refl, sym, ap, subst, ◌∙◌, append_assoc, slice_index_or, slice_set, arith}
use Rattle.std.specs.List.{range_with_len}
use Rattle.std.proofs.lemmas.List.{append-nil, length-set}
use Rattle.pl_node.specs.declared.acts.Act.{Act}
use Rattle.pl_node.specs.declared.switch_records.Source.{Source}
use Rattle.pl_node.specs.PortRecords.{ports_of_switch}
use Rattle.pl_node.specs.SwitchViews.{SwitchView}
use Rattle.pl_steps.specs.Steps.{SwitchStep, rests, ◌▹◌}
use Rattle.pl_steps.specs.Taken.{IsTaken, IsTakenByPart}
use Rattle.pl_switch_rule.specs.Granting.{forgets, grants_remembered, grants_source, remembered_at}
use Rattle.pl_migrate.specs.AddressTables.{AddressTableView, address_table_in, sources_in}
use Rattle.pl_migrate.specs.Keeping.{IsCaughtUp, KeepsGrants, KeepsTraps}

pub keeps_itself : (a : AddressTableView) → KeepsGrants a a
keeps_itself a = record { pod = refl; position = refl; ports = refl; grantees = λ address grantee found. found }

pub keeps_then : (a b c : AddressTableView) → KeepsGrants a b → KeepsGrants b c → KeepsGrants a c
keeps_then a b c first next = record {
  pod = next.pod ∙ first.pod;
  position = next.position ∙ first.position;
  ports = next.ports ∙ first.ports;
  grantees = λ address grantee found. next.grantees address grantee (first.grantees address grantee found);
}

-- what is left to be done at the ports from one on
abbrev rest : ℕ → ℕ → SwitchView → SwitchStep
rest k port v = grants_remembered (range_with_len port (k - port)) v

-- What was done at the ports before, and then the rest, is the whole.
pub record IsLearning (k port : ℕ) (address_table first : AddressTableView) (remembered sources : List (Option Source)) (out before : List Act) : Type 0 where
  pub view : (v : SwitchView) → (rest k port (sources_in address_table remembered v)).view
      ≡ (grants_remembered (ports_of_switch k) (sources_in first sources v)).view
  pub acts : (v : SwitchView) → out ++ (rest k port (sources_in address_table remembered v)).acts
      ≡ before ++ (grants_remembered (ports_of_switch k) (sources_in first sources v)).acts
  pub many : length remembered ≡ length sources
  pub kept : KeepsGrants first address_table
  pub traps : KeepsTraps first address_table
  pub caught_up : IsCaughtUp first → IsCaughtUp address_table

rest_first : (k : ℕ) (v : SwitchView) → rest k 0 v ≡ grants_remembered (ports_of_switch k) v
rest_first k v = let all : k - 0 ≡ k = omega arith in ap (λ n. grants_remembered (range_with_len 0 n) v) all

pub learning_first : (k : ℕ) (address_table : AddressTableView) (sources : List (Option Source)) (out : List Act) →
    IsLearning k 0 address_table address_table sources sources out out
learning_first k address_table sources out = record {
  view = λ v. ap (λ (s : SwitchStep). s.view) (rest_first k (sources_in address_table sources v));
  acts = λ v. ap (λ (s : SwitchStep). out ++ s.acts) (rest_first k (sources_in address_table sources v));
  many = refl;
  kept = keeps_itself address_table;
  traps = λ address. refl;
  caught_up = λ caught. caught;
}

rest_more : (k port : ℕ) (v : SwitchView) → port < k →
    rest k port v ≡ grants_source v port (remembered_at v port) ▹ forgets port ▹ rest k (port + 1)
unfolding grants_remembered
rest_more k port v within =
    let left : k - port ≡ suc (k - (port + 1)) = omega arith in
    ap (λ n. grants_remembered (range_with_len port n) v) left

rest_none : (k : ℕ) (v : SwitchView) → rest k k v ≡ rests v
unfolding grants_remembered
rest_none k v = let none : k - k ≡ 0 = omega arith in ap (λ n. grants_remembered (range_with_len k n) v) none

-- one port is done
done_view : (s : SwitchStep) (w : SwitchView) (port : ℕ) (g : SwitchView → SwitchStep) (out told : List Act) → IsTaken s w out told →
    (g (forgets port w).view).view ≡ (s ▹ forgets port ▹ g).view
done_view s w port g out told taken = ap (λ (u : SwitchView). (g (forgets port u).view).view) taken.view

done_acts : (s : SwitchStep) (w : SwitchView) (port : ℕ) (g : SwitchView → SwitchStep) (out told : List Act) → IsTaken s w out told →
    told ++ (g (forgets port w).view).acts ≡ out ++ (s ▹ forgets port ▹ g).acts
done_acts s w port g out told taken =
    ap (λ xs. xs ++ (g (forgets port w).view).acts) taken.acts
    ∙ append_assoc out s.acts (g (forgets port w).view).acts
    ∙ ap (λ xs. out ++ (xs ++ (g (forgets port w).view).acts)) (sym (append-nil s.acts))
    ∙ ap (λ (u : SwitchView). out ++ ((s.acts ++ []) ++ (g (forgets port u).view).acts)) taken.view

taken_at : (address_table after : AddressTableView) (remembered : List (Option Source)) (port : ℕ) (source : Option Source) (out told : List Act) →
    source ≡ slice_index_or remembered port None → IsTakenByPart address_table_in (λ v. grants_source v port source) address_table after out told →
    (v : SwitchView) →
    IsTaken (grants_source (sources_in address_table remembered v) port (slice_index_or remembered port None)) (sources_in after remembered v) out told
taken_at address_table after remembered port source out told is taken v =
    subst (λ o. IsTaken (grants_source (sources_in address_table remembered v) port o) (sources_in after remembered v) out told) is
    (taken (record v { remembered = remembered }))

pub learning_more : (k port : ℕ) (address_table after first : AddressTableView) (remembered sources : List (Option Source)) (source : Option Source)
    (out told before : List Act) →
    port < k → source ≡ slice_index_or remembered port None → IsTakenByPart address_table_in (λ v. grants_source v port source) address_table after out told →
    KeepsGrants address_table after → KeepsTraps address_table after → (IsCaughtUp address_table → IsCaughtUp after) →
    IsLearning k port address_table first remembered sources out before →
    IsLearning k (port + 1) after first (slice_set remembered port None) sources told before
learning_more k port address_table after first remembered sources source out told before within is taken kept traps up learning = record {
  view = λ v.
      done_view (grants_source (sources_in address_table remembered v) port (slice_index_or remembered port None)) (sources_in after remembered v) port
      (rest k (port + 1)) out told (taken_at address_table after remembered port source out told is taken v)
      ∙ sym (ap (λ (s : SwitchStep). s.view) (rest_more k port (sources_in address_table remembered v) within)) ∙ learning.view v;
  acts = λ v.
      done_acts (grants_source (sources_in address_table remembered v) port (slice_index_or remembered port None)) (sources_in after remembered v) port
      (rest k (port + 1)) out told (taken_at address_table after remembered port source out told is taken v)
      ∙ sym (ap (λ (s : SwitchStep). out ++ s.acts) (rest_more k port (sources_in address_table remembered v) within)) ∙ learning.acts v;
  many = length-set remembered port None ∙ learning.many;
  kept = keeps_then first address_table after learning.kept kept;
  traps = λ address. traps address ∙ learning.traps address;
  caught_up = λ caught. up (learning.caught_up caught);
}

pub learning_done : (k port : ℕ) (address_table first : AddressTableView) (remembered sources : List (Option Source)) (out before : List Act) → port ≡ k →
    IsLearning k port address_table first remembered sources out before → (v : SwitchView) →
    IsTaken (grants_remembered (ports_of_switch k) (sources_in first sources v)) (sources_in address_table remembered v) before out
learning_done k port address_table first remembered sources out before all learning v =
    let none : rest k port (sources_in address_table remembered v) ≡ rests (sources_in address_table remembered v) =
    ap (λ n. rest k n (sources_in address_table remembered v)) all ∙ rest_none k (sources_in address_table remembered v) in
    record {
      view = sym (ap (λ (s : SwitchStep). s.view) none) ∙ learning.view v;
      acts = sym (append-nil out) ∙ sym (ap (λ (s : SwitchStep). out ++ s.acts) none) ∙ learning.acts v;
    }
