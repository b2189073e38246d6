-- Keys and first faults computed by hand.
use Rattle.std.proofs.Common.{◌≡◌, [], ◌∷◌, pos, negsuc, None, Some, refl}
use Rattle.sim_game.specs.declared.Limits.TheVariants.{Narrow, Wide}
use Rattle.oshi_zumo.specs.declared.Setting.{Setting}
use Rattle.oshi_zumo.specs.declared.OshiError.TheVariants.{SizeRange, CoinRange, LeastRange, PlaceRange}
use Rattle.oshi_zumo.specs.Position.{first_fault}
use Rattle.oshi_zumo.specs.Rules.{after_push, bids_from, oshi_zumo_key}

abbrev two_against_one : Setting
two_against_one = record { size = 1; one = 2; two = 1; least = 1; place = pos 0 }

two_coins_against_one : oshi_zumo_key two_against_one (record { place = pos 0; one = 2; two = 1 }) ≡ 16449
two_coins_against_one = refl

both_bid_one : oshi_zumo_key two_against_one (after_push (record { place = pos 0; one = 2; two = 1 }) 1 1) ≡ 16416
both_bid_one = refl

-- beyond the narrow limits by a side's coins, or by the least bid
abbrev forty_against_twenty : Setting
forty_against_twenty = record { size = 0; one = 40; two = 20; least = 20; place = pos 0 }

wide_root : oshi_zumo_key forty_against_twenty (record { place = pos 0; one = 40; two = 20 }) ≡ 68116
wide_root = refl

wide_next : oshi_zumo_key forty_against_twenty (after_push (record { place = pos 0; one = 40; two = 20 }) 20 20) ≡ 66816
wide_next = refl

most_narrow : oshi_zumo_key (record { size = 8; one = 31; two = 31; least = 31; place = pos 0 }) (record { place = pos 0; one = 31; two = 31 }) ≡ 17407
most_narrow = refl

wide_least : oshi_zumo_key (record { size = 8; one = 31; two = 31; least = 32; place = pos 0 }) (record { place = pos 0; one = 31; two = 31 }) ≡ 67551
wide_least = refl

bids_of_two_coins : bids_from 1 2 ≡ 1 ∷ 2 ∷ []
bids_of_two_coins = refl

bids_of_too_few : bids_from 2 1 ≡ 0 ∷ []
bids_of_too_few = refl

size_first : first_fault Wide (record { size = 9; one = 99; two = 0; least = 0; place = pos 99 }) ≡ Some SizeRange
size_first = refl

coins_next : first_fault Narrow (record { size = 8; one = 31; two = 32; least = 0; place = pos 99 }) ≡ Some CoinRange
coins_next = refl

least_next : first_fault Narrow (record { size = 8; one = 31; two = 31; least = 0; place = pos 99 }) ≡ Some LeastRange
least_next = refl

place_last : first_fault Narrow (record { size = 8; one = 31; two = 31; least = 31; place = negsuc 8 }) ≡ Some PlaceRange
place_last = refl

no_fault : first_fault Narrow (record { size = 8; one = 31; two = 31; least = 31; place = negsuc 7 }) ≡ None
no_fault = refl

wide_coins : first_fault Wide (record { size = 0; one = 63; two = 64; least = 0; place = pos 99 }) ≡ Some CoinRange
wide_coins = refl

wide_bid : first_fault Wide (record { size = 0; one = 63; two = 63; least = 64; place = pos 99 }) ≡ Some LeastRange
wide_bid = refl

no_wide_fault : first_fault Wide (record { size = 8; one = 63; two = 63; least = 63; place = negsuc 7 }) ≡ None
no_wide_fault = refl
