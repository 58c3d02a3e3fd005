-- How many addresses the first ports of an address table granted.
use Rattle.std.proofs.Common.{◌≡◌, ◌<◌, ◌≤◌, ℕ, ◌+◌, ◌*◌, List, [], ◌∷◌, length, map, take, get_or, refl, sym, ap, ◌∙◌, arith}
use Rattle.std.specs.List.{sum_by}
use Rattle.std.proofs.lemmas.List.{length-map, take_more, take_all}
use Rattle.std.proofs.lemmas.List.Sums.{sum_by-cons, sum_by_push}
use Rattle.pl_migrate.specs.declared.tenancy.Tenancy.{Tenancy}
use Rattle.pl_migrate.specs.Tenancies.{grant_of}

pub record AreCounted (ports : List (List Tenancy)) (n count : ℕ) : Type 0 where
  pub total : count ≡ sum_by length (take n ports)
  pub within : count ≤ 65535 * n

pub counted_first : (ports : List (List Tenancy)) → AreCounted ports 0 0
counted_first ports = record { total = refl; within = omega arith }

pub counted_more : (ports : List (List Tenancy)) (n count after : ℕ) (port : List Tenancy) → n < length ports → port ≡ get_or ports n port →
    length port ≤ 65535 → after ≡ count + length port → AreCounted ports n count → AreCounted ports (n + 1) after
counted_more ports n count after port inside is short more counted = record {
  total = more ∙ ap (λ c. c + length port) counted.total
      ∙ sym (ap (sum_by length) (take_more ports n port inside) ∙ sum_by_push length (take n ports) (get_or ports n port)
      ∙ ap (λ p. sum_by length (take n ports) + length p) (sym is));
  within = let w = counted.within in omega arith;
}

pub all_counted : (ports : List (List Tenancy)) (n count : ℕ) → length ports ≤ n → AreCounted ports n count → count ≡ sum_by length ports
all_counted ports n count all counted = counted.total ∙ ap (sum_by length) (take_all n ports all)

-- as many are shown
pub all_shown : (now : ℕ) (ports : List (List Tenancy)) → sum_by length (map (map (grant_of now)) ports) ≡ sum_by length ports
all_shown now [] = refl
all_shown now (port ∷ ports) =
    sum_by-cons length (map (grant_of now) port) (map (map (grant_of now)) ports)
    ∙ ap (λ n. n + sum_by length (map (map (grant_of now)) ports)) (length-map port (grant_of now)) ∙ ap (λ n. length port + n) (all_shown now ports)
    ∙ sym (sum_by-cons length port ports)
