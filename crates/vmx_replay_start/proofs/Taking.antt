-- The ends of links, taken port by port, and the guests to which they go.
use Rattle.std.proofs.Common.{◌≡◌, ℕ, zero, suc, ◌+◌, ◌-◌, ◌<◌, List, [], ◌∷◌, ◌++◌, length, map, set, drop, refl, sym, ap, ◌∙◌, subst, arith, append_assoc, append-nil, length-append, length-drop, Some}
use Rattle.std.specs.List.{slice_get}
use Rattle.std.specs.Option.{option_map}
use Rattle.std.proofs.lemmas.List.{length-map}
use Rattle.vmx_link.specs.declared.ends.LinkOut.{LinkOut}
use Rattle.vmx_link.specs.declared.ends.LinkIn.{LinkIn}
use Rattle.vmx_link.specs.Views.{LinkOutView, LinkInView}
use Rattle.vmx_model.specs.declared.plan.Plan.{Plan}
use Rattle.vmx_model.specs.Bags.{EachQueue}
use Rattle.vmx_device_looks.specs.Queues.{each_at, each_push}
use Rattle.vmx_replay_worlds.specs.Guests.{GuestView}
use Rattle.vmx_replay_worlds.specs.Worlds.{outs_of, ins_of}
use Rattle.vmx_replay_worlds.proofs.Lists.{get_map, map_push}
use Rattle.vmx_replay_start.specs.declared.links.Links.{Links}
use Rattle.vmx_replay_start.specs.Linking.{LinksView, IsTaken, IsRow, IsColumn, AreLinked, outs_view, ins_view, links_view}
use Rattle.vmx_replay_start.specs.Made.{IsMadeAt, AreMade}

-- ------------------------------------------------------------ lists

module _ {X : Type 0} where
  drop_next : (xs : List X) (n : ℕ) (x y : X) → slice_get xs n ≡ Some x → x ∷ drop (suc n) (set xs n y) ≡ drop n xs
  drop_next [] n x y h = absurd (cc h)
  drop_next (z ∷ xs) zero x y h = let same : x ≡ z = cc h in ap (λ (w : X). w ∷ xs) same
  drop_next (z ∷ xs) (suc n) x y h = drop_next xs n x y h

  get_behind : (front xs : List X) (x : X) → slice_get (front ++ x ∷ xs) (length front) ≡ Some x
  get_behind [] xs x = refl
  get_behind (a ∷ front) xs x = get_behind front xs x

  no_more : (xs : List X) → length xs ≡ 0 → xs ≡ []
  no_more [] e = refl
  no_more (x ∷ xs) e = absurd (omega (arith, e))

  -- what was put aside with what is left is all
  module _ (front xs all : List X) (n : ℕ) (is : front ++ drop n xs ≡ all) (many : length front ≡ n) where
    lengths : n + (length xs - n) ≡ length all
    lengths = let e = ap length is in let a = length-append front (drop n xs) in let d = length-drop n xs in omega (arith, e, a, d, many)

    pub is_there : n < length all → n < length xs
    is_there lt = let l = lengths in omega (arith, l, lt)

    pub was_there : (x : X) → slice_get xs n ≡ Some x → slice_get all n ≡ Some x
    was_there x h =
        let split_ : front ++ x ∷ drop (suc n) (set xs n x) ≡ all = ap (λ (ys : List X). front ++ ys) (drop_next xs n x x h) ∙ is in
        subst (λ (ys : List X). slice_get ys n ≡ Some x) split_ (subst (λ (k : ℕ). slice_get (front ++ x ∷ drop (suc n) (set xs n x)) k ≡ Some x) many (get_behind front (drop (suc n) (set xs n x)) x))

    pub one_more : (x y : X) → slice_get xs n ≡ Some x → (front ++ x ∷ []) ++ drop (n + 1) (set xs n y) ≡ all
    one_more x y h =
        let z : n + 1 ≡ suc n = omega arith in
        append_assoc front (x ∷ []) (drop (n + 1) (set xs n y)) ∙ ap (λ (k : ℕ). front ++ (x ∷ drop k (set xs n y))) z ∙ ap (λ (ys : List X). front ++ ys) (drop_next xs n x y h) ∙ is

    pub all_there : n ≡ length all → front ≡ all
    all_there e =
        let l = lengths in let d = length-drop n xs in let none : drop n xs ≡ [] = no_more (drop n xs) (omega (arith, l, e, d)) in
        sym (append-nil front) ∙ ap (λ (ys : List X). front ++ ys) (sym none) ∙ is

-- ------------------------------------------------------------ guests

-- the guests at the ports below one, to which the ends at these ports went
pub record TakenTo (plan : Plan) (port : ℕ) (linked left : LinksView) (rs : List GuestView) : Type 0 where
  pub guests : EachQueue (IsMadeAt plan) 0 rs
  pub count : length rs ≡ port
  pub out : outs_of rs ++ drop port left.out ≡ linked.out
  pub input : ins_of rs ++ drop port left.input ≡ linked.input

abbrev outs_at : GuestView → List LinkOutView
outs_at r = r.device.out

abbrev ins_at : GuestView → List LinkInView
ins_at r = r.device.input

pub taken_none : (plan : Plan) (linked : LinksView) → TakenTo plan 0 linked linked []
taken_none plan linked = record { guests = tt; count = refl; out = refl; input = refl }

module _ (plan : Plan) (ports port : ℕ) (linked left : LinksView) (rs : List GuestView) (h : TakenTo plan port linked left rs) (all : AreLinked ports linked) where
  outs_many : length (outs_of rs) ≡ port
  outs_many = length-map rs outs_at ∙ h.count

  ins_many : length (ins_of rs) ≡ port
  ins_many = length-map rs ins_at ∙ h.count

  -- there are ends at the next port
  pub has_outs : port < ports → port < length left.out
  has_outs lt = let n = all.count.0 in is_there (outs_of rs) left.out linked.out port h.out outs_many (omega (arith, lt, n))

  pub has_ins : port < ports → port < length left.input
  has_ins lt = let n = all.count.1 in is_there (ins_of rs) left.input linked.input port h.input ins_many (omega (arith, lt, n))

  module _ (outs : List LinkOutView) (ins : List LinkInView) (left' : LinksView) (t : IsTaken port outs ins left left') where
    -- they are those to and from all others
    pub is_row : IsRow ports port outs
    is_row = let z : 0 + port ≡ port = omega arith in subst (λ (p : ℕ). IsRow ports p outs) z (each_at (IsRow ports) 0 linked.out port outs (was_there (outs_of rs) left.out linked.out port h.out outs_many outs t.out) all.out)

    pub is_column : IsColumn ports port ins
    is_column = let z : 0 + port ≡ port = omega arith in subst (λ (p : ℕ). IsColumn ports p ins) z (each_at (IsColumn ports) 0 linked.input port ins (was_there (ins_of rs) left.input linked.input port h.input ins_many ins t.input) all.input)

    -- a guest more
    pub taken_more : (r : GuestView) → IsMadeAt plan port r → r.device.out ≡ outs → r.device.input ≡ ins → TakenTo plan (port + 1) linked left' (rs ++ r ∷ [])
    taken_more r made out input =
        let z : port ≡ 0 + length rs = (let c = h.count in omega (arith, c)) in
        let a : outs_of (rs ++ r ∷ []) ≡ outs_of rs ++ outs ∷ [] = map_push outs_at rs r ∙ ap (λ (os : List LinkOutView). outs_of rs ++ os ∷ []) out in
        let b : ins_of (rs ++ r ∷ []) ≡ ins_of rs ++ ins ∷ [] = map_push ins_at rs r ∙ ap (λ (is : List LinkInView). ins_of rs ++ is ∷ []) input in
        subst (λ (v : LinksView). TakenTo plan (port + 1) linked v (rs ++ r ∷ [])) (sym t.is) (record {
          guests = each_push (IsMadeAt plan) 0 rs r h.guests (subst (λ (p : ℕ). IsMadeAt plan p r) z made);
          count = (let c = h.count in let n = length-append rs (r ∷ []) in omega (arith, c, n));
          out = ap (λ (os : List (List LinkOutView)). os ++ drop (port + 1) (set left.out port [])) a ∙ one_more (outs_of rs) left.out linked.out port h.out outs_many outs [] t.out;
          input = ap (λ (is : List (List LinkInView)). is ++ drop (port + 1) (set left.input port [])) b ∙ one_more (ins_of rs) left.input linked.input port h.input ins_many ins [] t.input;
        })

-- all guests
pub taken_all : (plan : Plan) (linked left : LinksView) (rs : List GuestView) → TakenTo plan (length plan.guests) linked left rs → AreLinked (length plan.guests) linked → AreMade plan rs
taken_all plan linked left rs h all =
    let n : ℕ = length plan.guests in
    let outs : outs_of rs ≡ linked.out = all_there (outs_of rs) left.out linked.out n h.out (length-map rs outs_at ∙ h.count) (sym all.count.0) in
    let ins : ins_of rs ≡ linked.input = all_there (ins_of rs) left.input linked.input n h.input (length-map rs ins_at ∙ h.count) (sym all.count.1) in record {
      guests = h.guests;
      count = h.count;
      keys = λ from to l. all.keys from to l.link l.end (record {
        outs = l.sender.device.out;
        outs_at = subst (λ (os : List (List LinkOutView)). slice_get os from ≡ Some l.sender.device.out) outs (get_map outs_at rs from ∙ ap (option_map outs_at) l.sender_at);
        j = l.j;
        to_is = l.to_is;
        out_at = l.link_at;
        ins = l.receiver.device.input;
        ins_at = subst (λ (is : List (List LinkInView)). slice_get is to ≡ Some l.receiver.device.input) ins (get_map ins_at rs to ∙ ap (option_map ins_at) l.receiver_at);
        k = l.k;
        from_is = l.from_is;
        in_at = l.end_at;
      });
    }

-- ------------------------------------------------------------ the same of what the guests and links are made of

pub taken_first : {G : Type 0} (view : G → GuestView) (plan : Plan) (linked : LinksView) (gs : List G) → gs ≡ [] → TakenTo plan 0 linked linked (map view gs)
taken_first {G} view plan linked gs e = subst (λ (xs : List G). TakenTo plan 0 linked linked (map view xs)) (sym e) (taken_none plan linked)

module _ {G : Type 0} (view : G → GuestView) (plan : Plan) (ports port : ℕ) (linked left : Links) (gs : List G) (many : ports ≡ length plan.guests) (all : AreLinked ports (links_view linked)) (h : TakenTo plan port (links_view linked) (links_view left) (map view gs)) where
  all_linked : AreLinked (length plan.guests) (links_view linked)
  all_linked = subst (λ (n : ℕ). AreLinked n (links_view linked)) many all

  pub outs_there : port < ports → port < length left.out
  outs_there lt =
      let low : port < length (map outs_view left.out) = has_outs plan (length plan.guests) port (links_view linked) (links_view left) (map view gs) h all_linked (omega (arith, lt, many)) in
      let n = length-map left.out outs_view in omega (arith, low, n)

  pub ins_there : port < ports → port < length left.input
  ins_there lt =
      let low : port < length (map ins_view left.input) = has_ins plan (length plan.guests) port (links_view linked) (links_view left) (map view gs) h all_linked (omega (arith, lt, many)) in
      let n = length-map left.input ins_view in omega (arith, low, n)

  module _ (os : List LinkOut) (is : List LinkIn) (left' : Links) (t : IsTaken port (outs_view os) (ins_view is) (links_view left) (links_view left')) where
    pub row_taken : IsRow (length plan.guests) port (outs_view os)
    row_taken = is_row plan (length plan.guests) port (links_view linked) (links_view left) (map view gs) h all_linked (outs_view os) (ins_view is) (links_view left') t

    pub column_taken : IsColumn (length plan.guests) port (ins_view is)
    column_taken = is_column plan (length plan.guests) port (links_view linked) (links_view left) (map view gs) h all_linked (outs_view os) (ins_view is) (links_view left') t

    pub taken_next : (x : G) (gs' : List G) → IsMadeAt plan port (view x) → ((view x).device.out ≡ outs_view os) × ((view x).device.input ≡ ins_view is) → gs' ≡ gs ++ x ∷ [] → TakenTo plan (port + 1) (links_view linked) (links_view left') (map view gs')
    taken_next x gs' made ends e =
        let more : TakenTo plan (port + 1) (links_view linked) (links_view left') (map view gs ++ view x ∷ []) =
        taken_more plan (length plan.guests) port (links_view linked) (links_view left) (map view gs) h all_linked (outs_view os) (ins_view is) (links_view left') t (view x) made ends.0 ends.1 in
        subst (TakenTo plan (port + 1) (links_view linked) (links_view left')) (sym (ap (map view) e ∙ map_push view gs x)) more

  pub all_made : port ≡ ports → AreMade plan (map view gs)
  all_made e = taken_all plan (links_view linked) (links_view left) (map view gs) (subst (λ (p : ℕ). TakenTo plan p (links_view linked) (links_view left) (map view gs)) (e ∙ many) h) all_linked
