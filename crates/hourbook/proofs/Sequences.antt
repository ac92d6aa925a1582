-- The order of the records as the reader follows it, and as it is written. Assumes nothing.
use Rattle.std.proofs.Common.{fold, ◌≡◌, ℕ, true, List, [], ◌∷◌, ◌++◌, drop, is_some, Some, unwrap_or, sym, refl, ap, ◌∙◌, subst, inl, inr, append-nil, arith}
use Rattle.hourbook.specs.declared.hourfile.order.Phase.{Phase}
use Rattle.hourbook.specs.declared.hourfile.order.Phase.TheVariants.{Start, Zones, Borders, Legs, Factors, Losses, Owners, Done}
use Rattle.hourbook.specs.declared.hourfile.«record».Kind.{Kind}
use Rattle.hourbook.specs.declared.hourfile.«record».Kind.TheVariants.{Header, Zone, Border, Leg, Factor, Loss, Owner, End}
use Rattle.hourbook.specs.Order.{next, may_stand, phase_after}
use Rattle.hourbook.specs.declared.hourfile.«record».Header as header
use Rattle.hourbook.specs.declared.hourfile.«record».Record.{Record}
use Rattle.hourbook.specs.declared.hourfile.«record».Record.TheVariants as row
use Rattle.hourbook.specs.Encoding.{Begins}
use Rattle.hourbook.specs.Passes.{AllInTurn, Reads}
use Rattle.hourbook.specs.Kinds.{kind_of}
use Rattle.hourbook.specs.Sequence.{Last, FromOwners, FromLosses, FromFactors, FromLegs, FromBorders, FromZones, InSequence, Opening, Ordered, kinds_of}

-- what is left of the order at each phase
abbrev pub Left : Phase → List Kind → Type 0
Left Start ks = InSequence ks
Left Zones ks = FromZones ks
Left Borders ks = FromBorders ks
Left Legs ks = FromLegs ks
Left Factors ks = FromFactors ks
Left Losses ks = FromLosses ks
Left Owners ks = FromOwners ks
Left Done ks = ks ≡ []

abbrev first : List Kind → Kind
first [] = End
first (x ∷ xs) = x

-- where a kind may lead
abbrev Leads : Phase → Kind → List Kind → Type 0
Leads p k ks = (q : Phase) × (next p k ≡ Some q) × Left q ks

module _ (p : Phase) (x : Kind) (ks : List Kind) where
  abbrev To : Kind → Phase → Type 0
  To k q = next p k ≡ Some q

  from_end : To End Done → Last (x ∷ ks) → Leads p x ks
  from_end e h = (Done, ap (λ l. next p (first l)) h ∙ e, ap (drop 1) h)

  from_owners : To Owner Owners → To End Done → FromOwners (x ∷ ks) → Leads p x ks
  from_owners hown e (inl t) = from_end e t
  from_owners hown e (inr s) = (Owners, ap (next p) s.0 ∙ hown, s.1)

  from_losses : To Loss Losses → To Owner Owners → To End Done → FromLosses (x ∷ ks) → Leads p x ks
  from_losses hlos hown e (inl t) = from_owners hown e t
  from_losses hlos hown e (inr s) = (Losses, ap (next p) s.0 ∙ hlos, s.1)

  from_factors : To Factor Factors → To Loss Losses → To Owner Owners → To End Done → FromFactors (x ∷ ks) → Leads p x ks
  from_factors hfac hlos hown e (inl t) = from_losses hlos hown e t
  from_factors hfac hlos hown e (inr s) = (Factors, ap (next p) s.0 ∙ hfac, s.1)

  from_legs : To Leg Legs → To Factor Factors → To Loss Losses → To Owner Owners → To End Done → FromLegs (x ∷ ks) → Leads p x ks
  from_legs hleg hfac hlos hown e (inl t) = from_factors hfac hlos hown e t
  from_legs hleg hfac hlos hown e (inr s) = (Legs, ap (next p) s.0 ∙ hleg, s.1)

  from_borders : To Border Borders → To Leg Legs → To Factor Factors → To Loss Losses → To Owner Owners → To End Done → FromBorders (x ∷ ks) → Leads p x ks
  from_borders hbor hleg hfac hlos hown e (inl t) = from_legs hleg hfac hlos hown e t
  from_borders hbor hleg hfac hlos hown e (inr s) = (Borders, ap (next p) s.0 ∙ hbor, s.1)

  from_zones : To Zone Zones → To Border Borders → To Leg Legs → To Factor Factors → To Loss Losses → To Owner Owners → To End Done → FromZones (x ∷ ks) → Leads p x ks
  from_zones hzon hbor hleg hfac hlos hown e (inl t) = from_borders hbor hleg hfac hlos hown e t
  from_zones hzon hbor hleg hfac hlos hown e (inr s) = (Zones, ap (next p) s.0 ∙ hzon, s.1)

pub left_leads : (p : Phase) (x : Kind) (ks : List Kind) → Left p (x ∷ ks) → Leads p x ks
left_leads Start x ks t = (Zones, ap (λ l. next Start (first l)) t.1, subst FromZones (sym (ap (drop 1) t.1)) t.2)
left_leads Zones x ks t = from_zones Zones x ks refl refl refl refl refl refl refl t
left_leads Borders x ks t = from_borders Borders x ks refl refl refl refl refl refl t
left_leads Legs x ks t = from_legs Legs x ks refl refl refl refl refl t
left_leads Factors x ks t = from_factors Factors x ks refl refl refl refl t
left_leads Losses x ks t = from_losses Losses x ks refl refl refl t
left_leads Owners x ks t = from_owners Owners x ks refl refl t
left_leads Done x ks e = cc

-- a kind that may stand takes the order on
pub left_before : (p : Phase) (k : Kind) (ks : List Kind) → may_stand p k ≡ true → Left (phase_after p k) ks → Left p (k ∷ ks)
left_before Start Header ks m t = (ks, refl, t)
left_before Start Zone ks m t = cc
left_before Start Border ks m t = cc
left_before Start Leg ks m t = cc
left_before Start Factor ks m t = cc
left_before Start Loss ks m t = cc
left_before Start Owner ks m t = cc
left_before Start End ks m t = cc
left_before Zones Header ks m t = cc
left_before Zones Zone ks m t = inr (refl, t)
left_before Zones Border ks m t = inl (inr (refl, t))
left_before Zones Leg ks m t = inl (inl (inr (refl, t)))
left_before Zones Factor ks m t = inl (inl (inl (inr (refl, t))))
left_before Zones Loss ks m t = inl (inl (inl (inl (inr (refl, t)))))
left_before Zones Owner ks m t = inl (inl (inl (inl (inl (inr (refl, t))))))
left_before Zones End ks m t = inl (inl (inl (inl (inl (inl (ap (λ l. End ∷ l) t))))))
left_before Borders Header ks m t = cc
left_before Borders Zone ks m t = cc
left_before Borders Border ks m t = inr (refl, t)
left_before Borders Leg ks m t = inl (inr (refl, t))
left_before Borders Factor ks m t = inl (inl (inr (refl, t)))
left_before Borders Loss ks m t = inl (inl (inl (inr (refl, t))))
left_before Borders Owner ks m t = inl (inl (inl (inl (inr (refl, t)))))
left_before Borders End ks m t = inl (inl (inl (inl (inl (ap (λ l. End ∷ l) t)))))
left_before Legs Header ks m t = cc
left_before Legs Zone ks m t = cc
left_before Legs Border ks m t = cc
left_before Legs Leg ks m t = inr (refl, t)
left_before Legs Factor ks m t = inl (inr (refl, t))
left_before Legs Loss ks m t = inl (inl (inr (refl, t)))
left_before Legs Owner ks m t = inl (inl (inl (inr (refl, t))))
left_before Legs End ks m t = inl (inl (inl (inl (ap (λ l. End ∷ l) t))))
left_before Factors Header ks m t = cc
left_before Factors Zone ks m t = cc
left_before Factors Border ks m t = cc
left_before Factors Leg ks m t = cc
left_before Factors Factor ks m t = inr (refl, t)
left_before Factors Loss ks m t = inl (inr (refl, t))
left_before Factors Owner ks m t = inl (inl (inr (refl, t)))
left_before Factors End ks m t = inl (inl (inl (ap (λ l. End ∷ l) t)))
left_before Losses Header ks m t = cc
left_before Losses Zone ks m t = cc
left_before Losses Border ks m t = cc
left_before Losses Leg ks m t = cc
left_before Losses Factor ks m t = cc
left_before Losses Loss ks m t = inr (refl, t)
left_before Losses Owner ks m t = inl (inr (refl, t))
left_before Losses End ks m t = inl (inl (ap (λ l. End ∷ l) t))
left_before Owners Header ks m t = cc
left_before Owners Zone ks m t = cc
left_before Owners Border ks m t = cc
left_before Owners Leg ks m t = cc
left_before Owners Factor ks m t = cc
left_before Owners Loss ks m t = cc
left_before Owners Owner ks m t = inr (refl, t)
left_before Owners End ks m t = inl (ap (λ l. End ∷ l) t)
left_before Done k ks m t = cc

-- from each phase the order can be brought to its end
pub rest_of : (p : Phase) → (ks : List Kind) × Left p ks
rest_of Start = (Header ∷ End ∷ [], (End ∷ [], refl, inl (inl (inl (inl (inl (inl refl)))))))
rest_of Zones = (End ∷ [], inl (inl (inl (inl (inl (inl refl))))))
rest_of Borders = (End ∷ [], inl (inl (inl (inl (inl refl)))))
rest_of Legs = (End ∷ [], inl (inl (inl (inl refl))))
rest_of Factors = (End ∷ [], inl (inl (inl refl)))
rest_of Losses = (End ∷ [], inl (inl refl))
rest_of Owners = (End ∷ [], inl refl)
rest_of Done = ([], refl)

-- the records stand in order, from phase p on
abbrev pub InOrder : Phase → List Record → Type 0
InOrder = AllInTurn (λ p r. may_stand p (kind_of r) ≡ true) (λ p r. phase_after p (kind_of r))

abbrev pub reached : Phase → List Record → Phase
reached p rs = fold (λ q r. phase_after q (kind_of r)) p rs

left_from : (p : Phase) (rs : List Record) (ks : List Kind) → InOrder p rs → Left (reached p rs) ks → Left p (kinds_of rs ++ ks)
left_from p [] ks o t = t
left_from p (r ∷ rs) ks o t = left_before p (kind_of r) (kinds_of rs ++ ks) o.0 (left_from (phase_after p (kind_of r)) rs ks o.1 t)

-- what is left of the order after one kind
left_next : (p : Phase) (k : Kind) (ks : List Kind) → Left p (k ∷ ks) → (may_stand p k ≡ true) × Left (phase_after p k) ks
left_next p k ks t =
    let l = left_leads p k ks t in
    let after : phase_after p k ≡ l.0 = ap (λ o. unwrap_or o p) l.1 in
    (ap is_some l.1, subst (λ q. Left q ks) (sym after) l.2)

-- what the order lets begin with the records is in order
left_in_order : (p : Phase) (rs : List Record) (ks : List Kind) → Left p (kinds_of rs ++ ks) → InOrder p rs × Left (reached p rs) ks
left_in_order p [] ks t = (tt, t)
left_in_order p (r ∷ rs) ks t =
    let n = left_next p (kind_of r) (kinds_of rs ++ ks) t in
    let m = left_in_order (phase_after p (kind_of r)) rs ks n.1 in
    ((n.0, m.0), m.1)

left_end : (p : Phase) → Left p [] → p ≡ Done
left_end Start h = cc (h.1)
left_end Zones h = cc
left_end Borders h = cc
left_end Legs h = cc
left_end Factors h = cc
left_end Losses h = cc
left_end Owners h = cc
left_end Done h = refl

pub opening_from : (rs : List Record) → InOrder Start rs → Opening rs
opening_from rs o = let r = rest_of (reached Start rs) in (r.0, left_from Start rs r.0 o r.1)

pub opening_in_order : (rs : List Record) → Opening rs → InOrder Start rs
opening_in_order rs h = (left_in_order Start rs h.0 h.1).0

pub ordered_from : (rs : List Record) → InOrder Start rs → reached Start rs ≡ Done → Ordered rs
ordered_from rs o e = subst InSequence (append-nil (kinds_of rs)) (left_from Start rs [] o (subst (λ p. Left p []) (sym e) refl))

pub ordered_done : (rs : List Record) → Ordered rs → reached Start rs ≡ Done
ordered_done rs h = left_end _ (left_in_order Start rs [] (subst InSequence (sym (append-nil (kinds_of rs))) h)).1

-- records in order begin with a header
pub ordered_heads : (rs : List Record) (rest bytes : List ℕ) → Ordered rs → Reads bytes rs rest → (h : header.Header) × Begins bytes (row.Header h)
ordered_heads [] rest bytes o r = cc (o.1)
ordered_heads (row.Header h ∷ rs) rest bytes o r = (h, subst (λ l. Begins l (row.Header h)) r (omega arith, refl))
ordered_heads (row.Zone x ∷ rs) rest bytes o r = cc (o.1)
ordered_heads (row.Border x ∷ rs) rest bytes o r = cc (o.1)
ordered_heads (row.Leg x ∷ rs) rest bytes o r = cc (o.1)
ordered_heads (row.Factor x ∷ rs) rest bytes o r = cc (o.1)
ordered_heads (row.Loss x ∷ rs) rest bytes o r = cc (o.1)
ordered_heads (row.Owner x ∷ rs) rest bytes o r = cc (o.1)
ordered_heads (row.End ∷ rs) rest bytes o r = cc (o.1)
