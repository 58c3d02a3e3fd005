-- Numbers and addresses of a script.
use Rattle.std.specs.Prelude.{◌≡◌, ℕ, Bool, ◌&&◌, nat_le, if◌then◌else◌, List, length, option_map, Result, Ok, Err, codes, refl}
use Rattle.std.specs.Char.{is_ascii_digit}
use Rattle.std.specs.List.{list_all}
use Rattle.std.specs.Str.{bytes_eq}
use Rattle.std.specs.Str.Parse.{digits_value}
use Rattle.pl_frame.specs.declared.address.Ip4.{Ip4}
use Rattle.pl_pmac.specs.declared.pmac.Pmac.{Pmac}
use Rattle.pl_pmac.specs.Pmac.{pmac_of}
use Rattle.pl_wiring.specs.Texts.{ip_number, mac_bytes}
use Rattle.pl_script.specs.Reading.{◌>>=◌, or_refused}
use Rattle.pl_script.specs.declared.command.Count.{Count}
use Rattle.pl_script.specs.declared.command.Count.TheVariants as counted
use Rattle.pl_script.specs.declared.error.ScriptReason.{ScriptReason}
use Rattle.pl_script.specs.declared.error.ScriptReason.TheVariants as reason

-- 1 to 20 digits, without a sign
abbrev pub is_number : List ℕ → Bool
is_number text = nat_le 1 (length text) && nat_le (length text) 20 && list_all is_ascii_digit text

abbrev pub is_within : ℕ → ℕ → ℕ → Bool
is_within least most n = nat_le least n && nat_le n most

-- a number from least to most; leading zeros are allowed
unfoldable pub number_of : ℕ → ℕ → List ℕ → Result ℕ ScriptReason
number_of least most text =
    if is_number text && is_within least most (digits_value 10 text) then Ok (digits_value 10 text) else Err reason.Number

-- a number from 1 to 1,000,000, or all
unfoldable pub count_of : List ℕ → Result Count ScriptReason
count_of text = if bytes_eq text (codes "all") then Ok counted.All else number_of 1 1000000 text >>= λ n. Ok (counted.N n)

-- the IPv4 address of a group, 224.0.0.0 to 239.255.255.255
unfoldable pub group_of : List ℕ → Result Ip4 ScriptReason
group_of text =
    or_refused (ip_number text) reason.Number >>= λ n. if is_within 0xe0000000 0xefffffff n then Ok (record { 0 = n }) else Err reason.Number

-- a pseudo address, written as a MAC address of either case; each is one
unfoldable pub pmac_named : List ℕ → Result Pmac ScriptReason
pmac_named text = or_refused (option_map (λ bytes. pmac_of (record { 0 = bytes })) (mac_bytes text)) reason.Number

twenty_digits : number_of 0 18446744073709551615 (codes "00000000000000000001") ≡ Ok 1
unfolding number_of
twenty_digits = refl

twenty_one_digits : number_of 0 18446744073709551615 (codes "000000000000000000001") ≡ Err reason.Number
unfolding number_of
twenty_one_digits = refl

beyond_64_bits : number_of 0 18446744073709551615 (codes "18446744073709551616") ≡ Err reason.Number
unfolding number_of
beyond_64_bits = refl

largest : number_of 0 18446744073709551615 (codes "18446744073709551615") ≡ Ok 18446744073709551615
unfolding number_of
largest = refl

no_sign : number_of 0 18446744073709551615 (codes "+1") ≡ Err reason.Number
unfolding number_of
no_sign = refl
