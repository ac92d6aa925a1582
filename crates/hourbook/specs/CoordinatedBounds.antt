-- That what tables of the coordinated method stand for keeps its limits. Assumes nothing. It stands here, since the law
-- of an impl can cite nothing in proofs/.
use Rattle.std.specs.Prelude.{ℕ, zero, suc, ◌-◌, ◌≤◌, List, [], ◌∷◌, map, length, ℤ, pos, negsuc, Ok, Err, vec_items, Result, All, slice_index_or, unsigned_abs}
use Rattle.std.proofs.Common.{arith}
use Rattle.std.proofs.lemmas.List.{length-map}
use Rattle.std.proofs.lemmas.List.Elements.{All-nil, All-cons, All-map}
use Rattle.std.proofs.lemmas.Int.{ints}
use Rattle.std.proofs.lemmas.Slice.Zip.{length-zip}
use Rattle.hourbook.specs.declared.hourfile.border.Border.{Border}
use Rattle.hourbook.specs.declared.hourfile.network.Network.{Network}
use Rattle.hourbook.specs.declared.hourfile.prices.Prices.{Prices}
use Rattle.hourbook.specs.declared.region.fault.Flaw.{Flaw}
use Rattle.hourbook.specs.Tables.{Price, NetPosition, cents_of, tenths_of}
use Rattle.hourbook.specs.Meaning.{Bounded, ZoneBounded, LineBounded, Toward}
use Rattle.hourbook.specs.Coordinated.{zones_of, border_line, coordinated_means}

cents_small : (ps : List Price) (k : ℕ) → unsigned_abs (slice_index_or (cents_of ps) k (pos 0)) ≤ 500000
cents_small [] k = omega arith
cents_small (p ∷ ps) zero = p.bounded
cents_small (p ∷ ps) (suc k) = cents_small ps k

toward_self : (z : ℤ) → Toward z z
toward_self (pos n) = (omega (arith, ints), omega (arith, ints))
toward_self (negsuc n) = (omega (arith, ints), omega (arith, ints))

line_bounded : (ps : List Price) (b : Border) → LineBounded (border_line (cents_of ps) b)
line_bounded ps b =
    let small = b.capacity.bounded in
    record {
      near = cents_small ps (b.near - 1);
      far = cents_small ps (b.far - 1);
      spread = toward_self _;
      flow = omega (arith, ints);
    }

each_zone : (ps : List Price) (ns : List NetPosition) → All ZoneBounded (zones_of (cents_of ps) (tenths_of ns))
each_zone [] ns = All-nil ZoneBounded
each_zone (p ∷ ps) [] = All-nil ZoneBounded
each_zone (p ∷ ps) (n ∷ ns) = All-cons ZoneBounded _ _ (record { price = p.bounded; position = n.bounded }) (each_zone ps ns)

each_line : (ps : List Price) (bs : List Border) → All LineBounded (map (border_line (cents_of ps)) bs)
each_line ps bs = All-map LineBounded (border_line (cents_of ps)) bs (λ k b _. line_bounded ps (slice_index_or bs k b))

pub zones_few : (ps ns : List ℤ) → length (zones_of ps ns) ≤ length ns
zones_few ps ns = simp (length-map, length-zip) (omega arith)

pub coordinated_bounded : (network : Network) (prices : Prices) (verdict : Result (Unit {0}) Flaw) → Bounded (coordinated_means (cents_of (vec_items prices.list)) (tenths_of (vec_items network.positions)) (vec_items network.borders) verdict)
coordinated_bounded network prices (Ok _) =
    let ps : List Price = vec_items prices.list in
    let ns : List NetPosition = vec_items network.positions in
    let p = network.few_zones in
    let q = network.few_borders in
    record {
      few_zones = simp (length-map, length-zip) (omega (arith, network.positions.ok.0));
      few_lines = simp length-map (omega (arith, network.borders.ok.0));
      each_zone = each_zone ps ns;
      each_line = each_line ps (vec_items network.borders);
    }
coordinated_bounded network prices (Err flaw) = record {
  few_zones = omega arith;
  few_lines = omega arith;
  each_zone = All-nil ZoneBounded;
  each_line = All-nil LineBounded;
}
