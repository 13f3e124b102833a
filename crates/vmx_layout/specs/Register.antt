-- Where the registers stand.
use Rattle.std.specs.Prelude.{◌≡◌, ◌≢◌, ℕ, ◌+◌, ◌*◌}
use Rattle.vmx_layout.specs.declared.register.Register.{Register}
use Rattle.vmx_layout.specs.declared.register.TheConstants.{DOORBELL_BAR, DEVICE_BAR, VRRS_OFFSET, UVRS_OFFSET, DSAL_OFFSET, DSAH_OFFSET, CMD_OFFSET, MACL_OFFSET, MACH_OFFSET, ICR_OFFSET, ECR_OFFSET, IMR_OFFSET, TXPROD_OFFSET, RXPROD_OFFSET, RXPROD2_OFFSET, REGISTER_STRIDE}
use Rattle.vmx_layout.specs.declared.register.Register.TheVariants.{Vrrs, Uvrs, Dsal, Dsah, Cmd, Macl, Mach, Icr, Ecr, Imr, TxProd, RxProd, RxProd2}

abbrev pub bar_of : Register → ℕ
bar_of (Imr i) = DOORBELL_BAR
bar_of (TxProd q) = DOORBELL_BAR
bar_of (RxProd q) = DOORBELL_BAR
bar_of (RxProd2 q) = DOORBELL_BAR
bar_of _ = DEVICE_BAR

abbrev pub offset_of : Register → ℕ
offset_of Vrrs = VRRS_OFFSET
offset_of Uvrs = UVRS_OFFSET
offset_of Dsal = DSAL_OFFSET
offset_of Dsah = DSAH_OFFSET
offset_of Cmd = CMD_OFFSET
offset_of Macl = MACL_OFFSET
offset_of Mach = MACH_OFFSET
offset_of Icr = ICR_OFFSET
offset_of Ecr = ECR_OFFSET
offset_of (Imr i) = IMR_OFFSET + REGISTER_STRIDE * i.number
offset_of (TxProd q) = TXPROD_OFFSET + REGISTER_STRIDE * q.number
offset_of (RxProd q) = RXPROD_OFFSET + REGISTER_STRIDE * q.number
offset_of (RxProd2 q) = RXPROD2_OFFSET + REGISTER_STRIDE * q.number

-- no register stands at this offset of this BAR
abbrev pub IsNoRegister : ℕ → ℕ → Type 0
IsNoRegister bar offset = (r : Register) → bar_of r ≡ bar → offset_of r ≢ offset
