mod Deliveries
mod Follows
mod Delivers
mod Receives
mod Begins
mod Showing
