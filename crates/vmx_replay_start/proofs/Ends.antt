-- The ends of links by port, as each call leaves them.
use Rattle.std.proofs.Common.{◌≡◌, ℕ, ◌+◌, ◌<◌, List, [], ◌∷◌, ◌++◌, length, map, set, get_or, refl, sym, ap, ◌∙◌, subst, arith, Some}
use Rattle.std.specs.List.{slice_get}
use Rattle.std.proofs.lemmas.List.{map-set}
use Rattle.vmx_link.specs.declared.ends.LinkOut.{LinkOut}
use Rattle.vmx_link.specs.declared.ends.LinkIn.{LinkIn}
use Rattle.vmx_link.specs.Views.{LinkOutView, LinkInView}
use Rattle.vmx_link.specs.Ends.{out_view, in_view, IsNewPair}
use Rattle.vmx_model.specs.declared.limits.TheConstants.{LINK_CAPACITY}
use Rattle.vmx_device_looks.specs.Queues.{all_push}
use Rattle.vmx_replay_worlds.proofs.Lists.{map_push}
use Rattle.vmx_replay_start.specs.declared.links.Links.{Links}
use Rattle.vmx_replay_start.specs.Linking.{outs_view, ins_view, links_view, IsJoined, IsTaken, AreNone}
use Rattle.vmx_replay_start.proofs.Pushed.{length_pushed, view_at}

-- ------------------------------------------------------------ no link

pub none_first : (xs : List (List LinkOut)) (ys : List (List LinkIn)) → xs ≡ [] → ys ≡ [] → AreNone 0 (links_view (record { out = xs; input = ys }))
none_first xs ys a b = subst (λ (p : List (List LinkOut) × List (List LinkIn)). AreNone 0 (links_view (record { out = p.0; input = p.1 }))) (λ i. (sym a i, sym b i)) (record { out = (refl, tt); input = (refl, tt) })

module _ (n : ℕ) (xs xs' : List (List LinkOut)) (ys ys' : List (List LinkIn)) (x : List LinkOut) (y : List LinkIn) where
  pub none_next : AreNone n (links_view (record { out = xs; input = ys })) → x ≡ [] → y ≡ [] → xs' ≡ xs ++ x ∷ [] → ys' ≡ ys ++ y ∷ [] → AreNone (n + 1) (links_view (record { out = xs'; input = ys' }))
  none_next h a b e f =
      let os : map outs_view xs' ≡ map outs_view xs ++ outs_view x ∷ [] = ap (map outs_view) e ∙ map_push outs_view xs x in
      let is : map ins_view ys' ≡ map ins_view ys ++ ins_view y ∷ [] = ap (map ins_view) f ∙ map_push ins_view ys y in
      let n_os = length_pushed (map outs_view xs) (outs_view x) in let n_is = length_pushed (map ins_view ys) (ins_view y) in
      let m_os = h.out.0 in let m_is = h.input.0 in
      subst (λ (p : List (List LinkOutView) × List (List LinkInView)). AreNone (n + 1) (record { out = p.0; input = p.1 })) (λ i. (sym os i, sym is i)) (record {
        out = (omega (arith, n_os, m_os), all_push (λ (os : List LinkOutView). os ≡ []) (map outs_view xs) (outs_view x) h.out.1 (ap outs_view a));
        input = (omega (arith, n_is, m_is), all_push (λ (is : List LinkInView). is ≡ []) (map ins_view ys) (ins_view y) h.input.1 (ap ins_view b));
      })

-- ------------------------------------------------------------ one link, and the ends at one port

module _ (old : Links) (from to : ℕ) (os os' : List LinkOut) (is is' : List LinkIn) (low : from < length old.out) (high : to < length old.input) (outs : os ≡ get_or old.out from os) (ins : is ≡ get_or old.input to is) where
  pub joined_ends : (o : LinkOut) (i : LinkIn) → IsNewPair from to LINK_CAPACITY (out_view o) (in_view i) → os' ≡ os ++ o ∷ [] → is' ≡ is ++ i ∷ [] → IsJoined from to (links_view old) (links_view (record { out = set old.out from os'; input = set old.input to is' }))
  joined_ends o i new e f =
      let out : map outs_view (set old.out from os') ≡ set (map outs_view old.out) from (outs_view os ++ out_view o ∷ []) = map-set outs_view old.out from os' ∙ ap (set (map outs_view old.out) from) (ap outs_view e ∙ map_push out_view os o) in
      let input : map ins_view (set old.input to is') ≡ set (map ins_view old.input) to (ins_view is ++ in_view i ∷ []) = map-set ins_view old.input to is' ∙ ap (set (map ins_view old.input) to) (ap ins_view f ∙ map_push in_view is i) in record {
        out = out_view o;
        input = in_view i;
        pair = new;
        outs = outs_view os;
        outs_at = view_at outs_view old.out from os low outs;
        ins = ins_view is;
        ins_at = view_at ins_view old.input to is high ins;
        is = λ j. record { out = out j; input = input j };
      }

  pub taken_ends : (a : List LinkOut) (b : List LinkIn) → from ≡ to → a ≡ os → b ≡ is → os' ≡ [] → is' ≡ [] → IsTaken from (outs_view a) (ins_view b) (links_view old) (links_view (record { out = set old.out from os'; input = set old.input to is' }))
  taken_ends a b same e f g h =
      let out : map outs_view (set old.out from os') ≡ set (map outs_view old.out) from [] = map-set outs_view old.out from os' ∙ ap (set (map outs_view old.out) from) (ap outs_view g) in
      let input : map ins_view (set old.input to is') ≡ set (map ins_view old.input) from [] = map-set ins_view old.input to is' ∙ ap (set (map ins_view old.input) to) (ap ins_view h) ∙ ap (λ (n : ℕ). set (map ins_view old.input) n []) (sym same) in record {
        out = view_at outs_view old.out from os low outs ∙ ap (λ (z : List LinkOut). Some (outs_view z)) (sym e);
        input = ap (slice_get (map ins_view old.input)) same ∙ view_at ins_view old.input to is high ins ∙ ap (λ (z : List LinkIn). Some (ins_view z)) (sym f);
        is = λ j. record { out = out j; input = input j };
      }
