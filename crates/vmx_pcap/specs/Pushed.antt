-- A capture grows by the bytes of one record more.
use Rattle.std.proofs.Common.{◌≡◌, List, [], ◌∷◌, ◌++◌, ap, sym, ◌∙◌, append_assoc}
use Rattle.std.specs.List.{flat_map}
use Rattle.std.proofs.lemmas.List.{append-nil}
use Rattle.std.proofs.lemmas.List.Concat.{flat_map-cons, flat_map-append}
use Rattle.vmx_pcap.specs.declared.records.Stamped.{Stamped}
use Rattle.vmx_pcap.specs.Written.{record_bytes, header_bytes, capture_bytes}

-- the capture of one record more is the capture so far and the record's bytes
pub capture_bytes-push : (rs : List Stamped) (r : Stamped) → capture_bytes (rs ++ r ∷ []) ≡ capture_bytes rs ++ record_bytes r
capture_bytes-push rs r =
    let bytes : flat_map record_bytes (rs ++ r ∷ []) ≡ flat_map record_bytes rs ++ record_bytes r =
    flat_map-append record_bytes rs (r ∷ []) ∙ ap (λ x. flat_map record_bytes rs ++ x) (flat_map-cons record_bytes r [] ∙ append-nil (record_bytes r)) in
    ap (λ x. header_bytes ++ x) bytes ∙ sym (append_assoc header_bytes (flat_map record_bytes rs) (record_bytes r))
