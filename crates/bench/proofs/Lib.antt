mod Again
mod Mapped
mod Rows
